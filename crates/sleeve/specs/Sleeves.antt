-- What the sleeve listing in code gives (01, Sleeve listing). The text itself is d64spec's `listing_text`; what the program prints: specs/Texts, `Prints`.
use Rattle.std.specs.Prelude.{◌≡◌, Result as CodeResult}
use Rattle.d64spec.specs.Lists.{Bytes}
use Rattle.d64spec.specs.Geometry.{Geometry}
use Rattle.d64spec.specs.Listing.{call_listing, listing_reply}
use Rattle.answers.specs.Faults.{reply_of}
use Rattle.answers.specs.declared.Done.{Done}
use Rattle.answers.specs.declared.Fault.{Fault}
use Rattle.sleeve.specs.Texts.{with_track}

-- the reply of the library call on track 18's bytes b and a text buffer, and the text buffer after it; a listing visits no file's sector
pub record SleeveListed (g : Geometry) (b text : Bytes) (r : CodeResult Done Fault) (text' : Bytes) : Type 0 where
  pub reply : reply_of r b text' ≡ with_track b (listing_reply text (call_listing g b text))
