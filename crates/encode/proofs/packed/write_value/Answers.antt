use Rattle.std.proofs.Common.{◌≡◌, of_z, w32, ap, ◌∙◌, rules, arith}
use Rattle.write.specs.Bytes.{be}
use Rattle.encode.specs.Runs.{width_size}
use Rattle.encode.proofs.Packing.{low_bytes}
use Rattle.encode.proofs.Numbers.{last_bytes}
use Rattle.encode.proofs.packed.write_value.Goals as goal

pub returns-in-1 : goal.returns-in-1
unfolding be
returns-in-1 g c =
    let n = of_z w32 c.args.v in
    let is : c.to_be_bytes-all.result ≡ be 4 n = search rules in
    let size : 1 ≡ width_size c.args.width = omega (arith, c.in-1.is, c.value_len.ensures) in
    rw (last_bytes 1 n c.to_be_bytes-all.result (omega arith) is, ap (λ k. be k n) size ∙ low_bytes c.args.width c.args.v c.requires) at c.put_all.ensures

pub returns-in-2 : goal.returns-in-2
unfolding be
returns-in-2 g c =
    let n = of_z w32 c.args.v in
    let is : c.to_be_bytes-all.result ≡ be 4 n = search rules in
    let size : 2 ≡ width_size c.args.width = omega (arith, c.in-2.is, c.value_len.ensures) in
    rw (last_bytes 2 n c.to_be_bytes-all.result (omega arith) is, ap (λ k. be k n) size ∙ low_bytes c.args.width c.args.v c.requires) at c.put_all-in-2.ensures

pub returns-in-4 : goal.returns-in-4
unfolding be
returns-in-4 g c =
    let n = of_z w32 c.args.v in
    let is : c.to_be_bytes-all.result ≡ be 4 n = search rules in
    let size : 4 ≡ width_size c.args.width = omega (arith, c.in-4.is, c.value_len.ensures) in
    rw (is, ap (λ k. be k n) size ∙ low_bytes c.args.width c.args.v c.requires) at c.put_all-in-4.ensures
