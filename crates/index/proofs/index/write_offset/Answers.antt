use Rattle.std.proofs.Common.{◌≡◌, rules}
use Rattle.write.specs.Bytes.{be}
use Rattle.encode.proofs.Numbers.{last_bytes}
use Rattle.index.proofs.index.write_offset.Goals as goal

pub returns : goal.returns
unfolding be
returns g c =
    let is : c.to_be_bytes-all.result ≡ be 4 c.args.offset = search rules in
    rw (last_bytes c.args.size c.args.offset c.to_be_bytes-all.result c.requires is) at c.put_all.ensures
