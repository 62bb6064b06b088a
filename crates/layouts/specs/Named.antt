-- What the code's named layout means (02, §8): a layout, or the refusal 17.
use Rattle.std.specs.Prelude.{◌-◌, length, eqb, leb, Option, None, Some}
use Rattle.d64spec.specs.Lists.{Bytes, byte}
use Rattle.d64spec.specs.Answers.{Result, refused, done, unknown_layout, ◌>>◌, need}
use Rattle.d64spec.specs.Layouts.{layout_numbered}
use Rattle.d64spec.specs.Geometry.{Geometry}
use Rattle.geometry.specs.Layout.{geometry_of}
use Rattle.geometry.specs.declared.Layout.{Layout}

-- the layout, or 17
abbrev pub named_by : Option Layout → Result Geometry
named_by (Some layout) = done (geometry_of layout)
named_by None = refused unknown_layout

-- the layout that the program's argument names: one digit, 0, 1 or 2, else 17
unfoldable pub layout_written : Bytes → Result Geometry
layout_written a = do
  need (eqb (length a) 1) unknown_layout
  need (leb 48 (byte a 0)) unknown_layout
  layout_numbered (byte a 0 - 48)
