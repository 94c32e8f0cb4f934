use Rattle.std.proofs.Common.{rules, tests, ◌==◌, ◌∙◌, not, map, ap}
use Rattle.std.proofs.lemmas.Iterator.Splits.{YieldsList-from_slice_split}
use Rattle.std.proofs.lemmas.Iterator.Consumers.{YieldsList-at, YieldsList-end, YieldsList-from_filter}
use Rattle.rk_model.specs.Lists.{none_of}
use Rattle.rk_script.specs.Words.{space}
use Rattle.rk_script.proofs.words.put_words.Goals as goal

pub returns : goal.returns
returns c =
    ap (map (λ w. w.now)) c.loop-word.invariant
    ∙ (YieldsList-end (YieldsList-at c.into_iter-word-iterator.ensures.into_iter_gives (YieldsList-from_filter _ (λ w. not (none_of w)) (YieldsList-at c.filter-word-items.ensures.source (YieldsList-from_slice_split _ (λ b. b == space) c.args.line.now c.split.ensures.rest c.split.ensures.done c.split.ensures.closure (λ x b q k. search (rules, tests)))) c.filter-word-items.ensures.closure (λ x b q k. search (rules, tests)))) c.loop-word.yielded _ c.loop-word.yielded_by _ _ c.in-None.is c.next.ensures.steps).0
