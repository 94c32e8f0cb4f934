use Rattle.rk_script.proofs.Naming.{name-absent, name-found}
use Rattle.rk_script.proofs.names.remove_name.Goals as goal

pub returns-in-Some : goal.returns-in-Some
returns-in-Some c =
    name-found c.args.name.now c.deref.result.now c.args.names.now.items c.remove.new.self.items c.in-Some.place c.deref.ensures.value c.in-Some.ensures.within c.in-Some.ensures.first c.in-Some.ensures.here c.remove.ensures.items

pub returns-in_default : goal.returns-in_default
returns-in_default c =
    name-absent c.args.name.now c.deref.result.now c.args.names.now.items c.deref.ensures.value c.in_default.ensures.absent
