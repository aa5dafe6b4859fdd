-- The model of an accepted file, handed over, is accepted. Assumes nothing.
use Rattle.std.specs.Prelude.{ℕ, ◌*◌, ◌<◌, ◌≡◌, refl, true, length}
use Rattle.std.proofs.Common.{sym, ap, ◌∙◌, subst, arith, take_all}
use Rattle.std.proofs.Math.Option.{none}
use mathlib.Core.List.{List, flatten}
use Rattle.columns.specs.Columns.{within}
use Rattle.columns.specs.Words.Bytes.{AreBytes}
use Rattle.format.specs.Lists.{All}
use Rattle.format.specs.Refusals.{numbers_room, number_test}
use Rattle.format.specs.TestLaws.{Accepted}
use Rattle.format.specs.File.Format.{judge, decode}
use Rattle.format.specs.File.FormatLaws.{decoded_valid}
use Rattle.format.proofs.Rows.{flat_length, flat_all, all_second}

-- without its parameters' numbers, which were judged with the file
pub file_accepted : (s : List ℕ) → AreBytes s → judge s ≡ 0 → Accepted (decode s).p (decode s).n (decode s).a (decode s).b (flatten (decode s).constants) (decode s).parameters none
unfolding numbers_room number_test
file_accepted s bytes ok =
    let v = decoded_valid s bytes ok in
    let flat = flatten (decode s).constants in
    let rows = (decode s).parameters in
    let long : length flat ≡ (decode s).a * (decode s).n =
    flat_length (λ c. c < (decode s).p) (decode s).n (decode s).constants v.constants_below ∙ ap (λ (k : ℕ). k * (decode s).n) v.constant_rows in
    record {
      prime = v.prime;
      p_most = v.p_most;
      n_least = v.n_least;
      n_most = v.n_most;
      a_most = v.a_most;
      b_most = v.b_most;
      constants_lent = omega (arith, long);
      parameters_lent = omega (arith, v.parameter_rows);
      numbers_lent = refl;
      constants_below = subst (All (λ c. c < (decode s).p)) (sym (take_all ((decode s).a * (decode s).n) flat (omega (arith, long)))) (flat_all _ _ _ v.constants_below);
      parameters_within = subst (All (λ w. within (decode s).n w ≡ true)) (sym (take_all (decode s).b rows (omega (arith, v.parameter_rows)))) (all_second _ _ rows v.parameters_within);
      numbers_once = refl;
    }
