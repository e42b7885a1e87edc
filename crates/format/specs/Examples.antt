-- The worked examples.
use Rattle.std.specs.Prelude.{◌≡◌, false, [], ◌∷◌, replicate, pos, negsuc, Some, None}
use Rattle.format.specs.Number.{number}
use Rattle.format.specs.Packed.{packed}
use Rattle.format.specs.Index.{index}
use Rattle.format.specs.Component.{Component, component, transform_of, settled}
use Rattle.format.specs.Table.{Content, table}

-- gid 7, translate x -3, scale x 1536 (1.5)
abbrev pub plain_7 : Component
plain_7 = record {
  reset = false;
  gid = 7;
  condition = None;
  axes = None;
  axes_slot = None;
  transform_slot = None;
  transform = transform_of (Some (negsuc 2) ∷ None ∷ None ∷ Some (pos 1536) ∷ []);
}

-- no region, delta set, axis list or composite
abbrev pub nothing : Content
nothing = record { regions = []; subtables = []; axis_lists = []; composites = [] }

-- what numbers, packed values, an INDEX, a record and a table look like, byte by byte
pub record Examples : Type 0 where
  pub number_7F : number 0x7F ≡ 0x7F ∷ []
  pub number_80 : number 0x80 ≡ 0x80 ∷ 0x80 ∷ []
  pub packed_zeros_inside : packed (pos 1 ∷ pos 0 ∷ pos 0 ∷ pos 2 ∷ []) ≡ 0x00 ∷ 0x01 ∷ 0x81 ∷ 0x00 ∷ 0x02 ∷ []
  pub packed_one_narrow : packed (pos 300 ∷ pos 5 ∷ pos 300 ∷ []) ≡ 0x42 ∷ 0x01 ∷ 0x2C ∷ 0x00 ∷ 0x05 ∷ 0x01 ∷ 0x2C ∷ []
  pub packed_two_narrow : packed (pos 300 ∷ pos 5 ∷ pos 6 ∷ []) ≡ 0x40 ∷ 0x01 ∷ 0x2C ∷ 0x01 ∷ 0x05 ∷ 0x06 ∷ []
  pub packed_65_zeros : packed (replicate 65 (pos 0)) ≡ 0xBF ∷ 0x80 ∷ []
  pub index_of_two : index ((0x41 ∷ 0x42 ∷ []) ∷ [] ∷ []) ≡ 0 ∷ 0 ∷ 0 ∷ 2 ∷ 1 ∷ 1 ∷ 3 ∷ 3 ∷ 0x41 ∷ 0x42 ∷ []
  pub component_7 : component plain_7 ≡ 0x81 ∷ 0x10 ∷ 0x00 ∷ 0x07 ∷ 0xFF ∷ 0xFD ∷ 0x06 ∷ 0x00 ∷ []
  -- settled: translate x -3, scale x 1536, scale y 1024, the other six 0
  pub settled_7 : settled plain_7.transform ≡ record {
    translate_x = negsuc 2;
    translate_y = pos 0;
    rotation = pos 0;
    scale_x = pos 1536;
    scale_y = pos 1024;
    skew_x = pos 0;
    skew_y = pos 0;
    center_x = pos 0;
    center_y = pos 0;
  }
  -- version, offsets of coverage, store, condition list, axis lists and composites; coverage; two empty INDEXes
  pub table_of_nothing : table nothing (0 ∷ 1 ∷ 0 ∷ 0 ∷ []) [] ≡
      0 ∷ 1 ∷ 0 ∷ 0 ∷ 0 ∷ 0 ∷ 0 ∷ 0x18 ∷ 0 ∷ 0 ∷ 0 ∷ 0 ∷ 0 ∷ 0 ∷ 0 ∷ 0 ∷ 0 ∷ 0 ∷ 0 ∷ 0x1C ∷ 0 ∷ 0 ∷ 0 ∷ 0x20 ∷ 0 ∷ 1 ∷ 0 ∷ 0 ∷ 0 ∷ 0 ∷ 0 ∷ 0 ∷ 0 ∷ 0 ∷ 0 ∷ 0 ∷ []
