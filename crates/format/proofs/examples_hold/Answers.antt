use Rattle.std.proofs.Common.{refl}
use Rattle.write.specs.Bytes.{be}
use Rattle.format.specs.Packed.{pack}
use Rattle.format.specs.Index.{index}
use Rattle.format.specs.Component.{component, bits_value}
use Rattle.format.specs.Table.{table, store, axis_index, composite_index}
use Rattle.format.proofs.examples_hold.Goals as goal

pub returns : goal.returns
unfolding be pack index component bits_value table store axis_index composite_index
returns c = record {
  number_7F = refl;
  number_80 = refl;
  packed_zeros_inside = refl;
  packed_one_narrow = refl;
  packed_two_narrow = refl;
  packed_65_zeros = refl;
  index_of_two = refl;
  component_7 = refl;
  settled_7 = refl;
  table_of_nothing = refl;
}
