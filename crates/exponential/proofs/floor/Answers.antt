-- `exponential::floor`: a cut toward zero is the floor, or one above it where t is below the cut (Floors). Assumes nothing.
use Rattle.std.proofs.Common.{◌≡◌, ℤ, pos, ◌-ℤ◌, sym, ap, ◌∙◌, arith, w64, to_z, of_z}
use lib.Ieee.{Float, binary64, lt, of_int, to_signed}
use mir.ValLaws.{to_z-of_z}
use Rattle.elementary.specs.Steps.{Small}
use Rattle.elementary.proofs.Floors.{cut_of, cut_is, cut_mag, few_in_float, cut_fits, cut_less_fits, small_low, small_high, floor_above, floor_level}
use Rattle.exponential.proofs.floor.Goals as goal

-- the cut as the machine has it
module _ (t : Float) (s : Small t) (q : ℤ) (e : q ≡ to_signed 63 t) where
  is_cut : q ≡ cut_of t
  is_cut = e ∙ cut_is t s

  read_back : to_z w64 (of_z w64 q) ≡ cut_of t
  read_back = ap (λ (z : ℤ). to_z w64 (of_z w64 z)) is_cut ∙ to_z-of_z w64 (cut_of t) (cut_fits t s)

  less_back : to_z w64 (of_z w64 (to_z w64 (of_z w64 q) -ℤ pos 1)) ≡ cut_of t -ℤ pos 1
  less_back = ap (λ (z : ℤ). to_z w64 (of_z w64 (z -ℤ pos 1))) read_back ∙ to_z-of_z w64 (cut_of t -ℤ pos 1) (cut_less_fits t s)

pub truncating_f64_to_i64-q-requires : goal.truncating_f64_to_i64-q-requires
truncating_f64_to_i64-q-requires c = record { lower_bound = small_low c.args.t c.requires; upper_bound = small_high c.args.t c.requires }

pub int_to_float-q : goal.int_to_float-q
int_to_float-q c =
    let q = c.truncating_f64_to_i64-q in
    let l = cut_mag c.args.t c.requires in
    rw (read_back c.args.t c.requires q.result q.ensures) (few_in_float (cut_of c.args.t) (omega arith))

pub returns-then-t-q : goal.returns-then-t-q
returns-then-t-q c =
    let q = c.truncating_f64_to_i64-q in
    less_back c.args.t c.requires q.result q.ensures
    ∙ floor_above c.args.t c.requires
    (ap (λ (z : ℤ). lt c.args.t (of_int binary64 z)) (sym (read_back c.args.t c.requires q.result q.ensures)) ∙ c.if-t-q.true)

pub returns-else-t-q : goal.returns-else-t-q
returns-else-t-q c =
    let q = c.truncating_f64_to_i64-q in
    read_back c.args.t c.requires q.result q.ensures
    ∙ floor_level c.args.t c.requires
    (ap (λ (z : ℤ). lt c.args.t (of_int binary64 z)) (sym (read_back c.args.t c.requires q.result q.ensures)) ∙ c.if-t-q.false)

pub overflow_sub-result : goal.overflow_sub-result
overflow_sub-result c =
    rw (read_back c.args.t c.requires c.truncating_f64_to_i64-q.result c.truncating_f64_to_i64-q.ensures)
    (cut_less_fits c.args.t c.requires)
