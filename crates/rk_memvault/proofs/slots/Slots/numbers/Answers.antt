use Rattle.std.proofs.Common.{subst}
use Rattle.std.specs.Prelude.{IfOk}
use Rattle.rk_outside.specs.Vaults.{AreNumbers}
use Rattle.rk_memvault.specs.Slots.{files_in}
use Rattle.rk_memvault.proofs.Numbers.{listed}
use Rattle.rk_memvault.proofs.slots.Slots.numbers.Goals as goal

pub returns : goal.returns
returns c =
    subst (λ slots. IfOk c.numbers_of.result (λ ns. AreNumbers (files_in slots) ns.items)) c.self.view_is
    (listed (λ ns. ns.items) c.self.inside.slots.entries c.numbers_of.result c.numbers_of.ensures.listed c.numbers_of.ensures.ordered)
