-- `admission::check_quotes`: the entries kept are looked at in columns of their own. Assumes nothing.
use Rattle.std.proofs.lemmas.Grind.{common_steps}
use Rattle.std.proofs.lemmas.Result.{err_from_is_err_and}
use Rattle.std.specs.Prelude.{Ok, Err, if◌then◌else◌}
use Rattle.limits.specs.Checks.{first, none}
use Rattle.limits.specs.Refusals.{number_in}
use Rattle.limits.specs.declared.Refusal.TheVariants.{ShortBuffer}
use Rattle.chart.specs.Quotes.{Columns, is_short, all_entries}
use Rattle.chart.proofs.BuildChecks.{told_wrong, told_ranged}
use Rattle.limits.proofs.Passing.{passes_check, fails_check}
use Rattle.admission.specs.Lent.{columns_in}
use Prim.Native.Nat.{◌≤◌}
use mathlib.Core.Path.{◌≡◌, refl, ap, ◌∙◌}
use mathlib.Core.Bool.{Bool, true, false, not}
use native.Mathlib.Omega.{arith}
use Rattle.admission.proofs.check_quotes.Goals as goal

pub returns-in_err-check-3 : goal.returns-in_err-check-3
unfolding is_short
returns-in_err-check-3 c =
    let lent : Columns = columns_in c.args.quotes.now in
    let full : is_short lent ≡ false = grind (arith, common_steps) in
    let few : c.args.kept ≤ 1024 = grind (arith, common_steps) in
    let entries = c.are_quotes-ranged.ensures ∙ ap (λ (q : Columns). all_entries q) c.first.ensures in
    let failed = fails_check _ _ _ _ c.in_err-check-3.ensures in
    let p = err_from_is_err_and c.from_residual-in_err-check-3.result c.from_residual-in_err-check-3.ensures.1 in
    rw (p.1, p.2, failed.1) (told_wrong lent c.args.kept c.args.small _ full few entries failed.0)

small_told : (small : Bool) → number_in {T = Unit {0}} (if not small then Ok tt else Err ShortBuffer) ≡ first small 15 none
unfolding first
small_told true = refl
small_told false = refl

pub returns : goal.returns
unfolding is_short
returns c =
    let lent : Columns = columns_in c.args.quotes.now in
    let full : is_short lent ≡ false = grind (arith, common_steps) in
    let few : c.args.kept ≤ 1024 = grind (arith, common_steps) in
    let entries = c.are_quotes-ranged.ensures ∙ ap (λ (q : Columns). all_entries q) c.first.ensures in
    let told = told_ranged lent c.args.kept c.args.small _ full few entries (passes_check _ _ _ _ c.in_ok-check-3.ensures) in
    rw (c.check-4.ensures, ← told) (small_told c.args.small)
