-- Tell and the sleeve listing as host calls, in the form of document 01's own (01, Host calls; Tell; Sleeve listing).
-- In order: any call behind an answer block; tell; the listing. Laws: proofs/HostLaws.
use Rattle.std.specs.Prelude.{ℕ, cond, ◌∷◌, ◌++◌, length, eqb, leb}
use Rattle.d64spec.specs.Lists.{Bytes, splice}
use Rattle.d64spec.specs.Answers.{answer_of, wrong_buffer, Result, done, ◌>>=◌, ◌>>◌, need}
use Rattle.d64spec.specs.Geometry.{Geometry}
use Rattle.d64spec.specs.Reply.{Change, Reply, reply}
use Rattle.d64spec.specs.Read.{FileInformation, call_tell}
use Rattle.d64spec.specs.Listing.{call_listing}
use Rattle.d64spec.specs.Layouts.{layout_numbered}
use Rattle.d64spec.specs.Host.{HostReply, host_reply, little_endian}

-- what the host sees of a call that was lent these bytes to read, this output and this answer block. Where the block is not nine bytes:
-- 16 before all else, and nothing is written
unfoldable pub host_form : Bytes → Bytes → Bytes → Result Change → HostReply
host_form img out block r =
    cond (eqb (length block) 9) (host_reply (reply img out r))
    (record { number = (answer_of wrong_buffer).number; image_after = img; output_after = out; block_after = block })

-- the 25 bytes that tell gives: type byte, 16 name bytes, first sector as track and sector, count, length; numbers low byte first
unfoldable pub entry_bytes : FileInformation → Bytes
entry_bytes i = i.type_byte ∷ (i.name_bytes ++ (i.first_track ∷ i.first_sector ∷ (little_endian 2 i.sector_count ++ little_endian 4 i.byte_length)))

-- tell into an entry: 16, given last, where it has fewer than 25 bytes; its first 25 bytes, the rest of it as it was; a report of 0 and 0
unfoldable pub tell_into : Geometry → Bytes → ℕ → Bytes → Result Change
tell_into g img position entry = do
  i ← call_tell g img position
  need (leb 25 (length entry)) wrong_buffer
  done (record { image_after = img; output_after = splice entry 0 (entry_bytes i); reported_length = 0; reported_sectors = 0 })

-- the listing, which reports the length of its text and no sectors
unfoldable pub list_into : Geometry → Bytes → Bytes → Result Change
list_into g b text = do
  l ← call_listing g b text
  done (record { image_after = b; output_after = l.output_after; reported_length = l.reported_length; reported_sectors = 0 })

-- the replies of both, where the layout is named by its number: 17 where it has none (02, §8)
unfoldable pub tell_in : ℕ → Bytes → ℕ → Bytes → Reply
tell_in n img position entry = reply img entry (layout_numbered n >>= (λ g. tell_into g img position entry))

unfoldable pub listing_in : ℕ → Bytes → Bytes → Reply
listing_in n b text = reply b text (layout_numbered n >>= (λ g. list_into g b text))

-- both as host calls that name a layout by its number (02, §8): 17, behind the block and before all else, where it has none
unfoldable pub host_tell_in : ℕ → Bytes → Bytes → ℕ → Bytes → HostReply
host_tell_in n img block position entry = host_form img entry block (layout_numbered n >>= (λ g. tell_into g img position entry))

unfoldable pub host_listing_in : ℕ → Bytes → Bytes → Bytes → HostReply
host_listing_in n b block text = host_form b text block (layout_numbered n >>= (λ g. list_into g b text))
