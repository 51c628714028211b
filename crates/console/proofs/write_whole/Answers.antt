use Rattle.std.proofs.Common.{◌≡◌, ℕ, ◌+◌, ◌-◌, List, ◌++◌, rules, length, take, drop, sym, ap, ◌∙◌, subst}
use Rattle.std.proofs.lemmas.List.{take_rest}
use Rattle.std.proofs.KnownBytes.{Appends-trans}
use Rattle.std.specs.Io.KnownBytes.{Appends}
use lib.Seq.{take-add}
use Rattle.console.proofs.write_whole.Goals as goal

-- the text's beginning, and then a beginning of its rest
longer : (text : List ℕ) (done more : ℕ) → take done text ++ take more (take (length text - done) (drop done text)) ≡ take (done + more) text
longer text done more = ap (λ l. take done text ++ take more l) (take_rest text done) ∙ sym (take-add done more text)

-- what was written before and what was written now are together the text's beginning
pub loop-done-preserved : goal.loop-done-preserved
loop-done-preserved g c =
    (search rules, subst (Appends _ _) (longer c.args.text.now c.loop-done.done c.in_ok-more.more) (Appends-trans _ _ _ _ _ c.loop-done.invariant.1 c.in_ok-more.ensures.bytes))
