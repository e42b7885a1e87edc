use Rattle.std.proofs.Common.{◌≡◌, arith, rules}
use Rattle.write.specs.Bytes.{be}
use Rattle.encode.proofs.Numbers.{number_within, one_byte, two_bytes, three_bytes, four_bytes, five_bytes}
use Rattle.encode.proofs.uint32var.Uint32VarFontWrite.write_while_room.Goals as goal

pub returns-in-1 : goal.returns-in-1
unfolding be
returns-in-1 g c =
    let is : c.to_be_bytes.result ≡ be 4 c.args.self.now.0 = search rules in
    rw (one_byte c.args.self.now.0 c.to_be_bytes.result is (omega arith)) at c.put_all.ensures

pub returns-in-2 : goal.returns-in-2
unfolding be
returns-in-2 g c =
    let is : c.to_be_bytes.result ≡ be 4 c.args.self.now.0 = search rules in
    rw (two_bytes c.args.self.now.0 c.to_be_bytes.result is (omega arith)) at c.put_all-in-2.ensures

pub returns-in-3 : goal.returns-in-3
unfolding be
returns-in-3 g c =
    let is : c.to_be_bytes.result ≡ be 4 c.args.self.now.0 = search rules in
    rw (three_bytes c.args.self.now.0 c.to_be_bytes.result is (omega arith)) at c.put_all-in-3.ensures

pub returns-in-4 : goal.returns-in-4
unfolding be
returns-in-4 g c =
    let is : c.to_be_bytes.result ≡ be 4 c.args.self.now.0 = search rules in
    rw (four_bytes c.args.self.now.0 c.to_be_bytes.result is (omega arith)) at c.put_all-in-4.ensures

pub returns-in_default : goal.returns-in_default
unfolding be
returns-in_default g c =
    let is : c.to_be_bytes.result ≡ be 4 c.args.self.now.0 = search rules in
    rw (five_bytes c.args.self.now.0 c.to_be_bytes.result is (omega (arith, (number_within c.args.self.now.0).0))) at c.put_all-in_default.ensures
