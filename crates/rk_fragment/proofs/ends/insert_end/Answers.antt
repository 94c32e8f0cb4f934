use Rattle.std.proofs.Common.{◌∙◌, ap}
use Rattle.std.specs.BTreeSet.{insert_key}
use Rattle.rk_key.specs.Keys.{key_cmp}
use Rattle.rk_fragment.proofs.Rising.{insert_is}
use Rattle.rk_fragment.proofs.ends.insert_end.Goals as goal

pub returns : goal.returns
returns c =
    c.in_ok-insert.ensures.keys
    ∙ ap (insert_key key_cmp c.args.ends.now.keys) c.in_ok-copy_key.ensures.value
    ∙ insert_is c.args.key.now c.args.ends.now.keys
