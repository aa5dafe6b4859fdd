-- What the tests of `Claims` show. Assumes nothing.
use Rattle.std.specs.Prelude.{ℕ, ◌+◌, ◌≤◌, ◌<◌, ◌≡◌, false, ◌&&◌, ◌||◌, ◌⊎◌}
use Rattle.std.proofs.Common.{sym, ◌∙◌, ap, true≢false, arith}
use Rattle.std.proofs.Math.Bool.{Bool, true, not, decide, decide_iff}
use Rattle.std.proofs.lemmas.Bool.{false≢true}
use mathlib.Core.List.{List, [], ◌∷◌}
use Rattle.std.proofs.Math.Logic.{inl, inr}
use Rattle.std.proofs.Math.Decide.{ℕ_discrete, dec_lt}
use Rattle.counting.specs.Bools.{and_left, and_right, or_split, not_in, implied}
use Rattle.counting.specs.Sets.{all, Set, ◌∈◌, #, touching}
use Rattle.counting.specs.Counts.{all_iff}
use Rattle.counting.specs.Choices.{Part}
use Rattle.rank.specs.Linear.Independence.{Indep}
use Rattle.rank.specs.Linear.Kernels.{same_sym, same_indep}
use Rattle.rank.specs.Linear.Tableaus.{owned_indep}
use Rattle.rank.specs.Layered.Model.{Model, Seat, out, constant, row, Assignment, is_placed, is_constant, placing, constants, Legal, size, legal}
use Rattle.rank.specs.Layered.Rank.{constant_rank}
use Rattle.rank.proofs.Layered.Meaning.{true_legal, legal_from}
use Rattle.rank.proofs.Layered.Restricting.{constant_placed}
use Rattle.rank.proofs.Layered.RankRows.{constant_rank_rows}
use Rattle.mixed_models.specs.Starred.Lists.{among, seats, all_below_n, seats_beyond}
use Rattle.mixed_models.specs.Starred.Pivots.{Pivots, pivoted_tableau, owners, proper, proper_same, proper_tableau, owns, owns_owned}
use Rattle.mixed_models.specs.Starred.Claims.{Evidence, Refusal, earlier, sits, apart, sound, rows_left, spares, spared, within_set, refuses, refused_by, below_all}

module _ (M : Model) where
  open M use {K, a, b, n, Q, T, E}

  sits_iff : (own : Set) (x : ℕ) (s : Seat) → sits M own x s ≡ true → (is_placed s ≡ true → x ∈ E) × (is_constant s ≡ true → x ∈ own) × ((r : ℕ) → s ≡ row r → (r < b) × (T r x ≡ true))
  unfolding sits
  sits_iff own x out e = (λ p. absurd (false≢true p), λ p. absurd (false≢true p), λ r d. absurd (false≢true (ap is_placed d)))
  sits_iff own x constant e = (λ p. and_left (E x) (own x) e, λ p. and_right (E x) (own x) e, λ r d. absurd (true≢false (ap is_constant d)))
  sits_iff own x (row q) e =
      let f : (E x && decide (dec_lt q b)) ≡ true = and_left (E x && decide (dec_lt q b)) (T q x) e in
      let t : T q x ≡ true = and_right (E x && decide (dec_lt q b)) (T q x) e in
      (λ p. and_left (E x) (decide (dec_lt q b)) f, λ p. absurd (false≢true p), λ r d. let j : q ≡ r = cc in rw (← j) ((decide_iff (dec_lt q b)).0 (and_right (E x) (decide (dec_lt q b)) f), t))

  pub sound_legal : (e : Evidence) → sound M e ≡ true → Legal M (seats e.its_seats)
  unfolding sound apart
  sound_legal e t = true_legal M A (record { offered = λ x p. (low x p, (at x (low x p)).0 p); below = λ x r d. ((at x (low x (ap is_placed d))).2 r d).0 }) (legal_parts)
    where
      A : Assignment
      A = seats e.its_seats

      o : ℕ → ℕ
      o = owners K e.its_pivots (λ h. n)

      first : (all_below_n e.its_seats n && proper K a e.its_pivots Q) ≡ true
      first = and_left (all_below_n e.its_seats n && proper K a e.its_pivots Q) (all n (λ x. sits M (owns a o) x (A x)) && apart M A) t

      second : (all n (λ x. sits M (owns a o) x (A x)) && apart M A) ≡ true
      second = and_right (all_below_n e.its_seats n && proper K a e.its_pivots Q) (all n (λ x. sits M (owns a o) x (A x)) && apart M A) t

      proper_there : proper K a e.its_pivots Q ≡ true
      proper_there = and_right (all_below_n e.its_seats n) (proper K a e.its_pivots Q) first

      low : (x : ℕ) → x ∈ placing A → x < n
      low x p = elim (dec_lt x n) [ yes l ↦ l | no nl ↦ absurd (true≢false (sym p ∙ ap is_placed (seats_beyond e.its_seats n x (and_left (all_below_n e.its_seats n) (proper K a e.its_pivots Q) first) (omega arith)))) ]

      at : (x : ℕ) → x < n → (x ∈ placing A → x ∈ E) × (x ∈ constants A → x ∈ owns a o) × ((r : ℕ) → A x ≡ row r → (r < b) × (T r x ≡ true))
      at x l = sits_iff (owns a o) x (A x) ((all_iff n (λ x. sits M (owns a o) x (A x))).0 (and_left (all n (λ x. sits M (owns a o) x (A x))) (apart M A) second) x l)

      independent : Indep K a n Q (constants A)
      independent = same_indep (same_sym (proper_same K a n e.its_pivots Q proper_there))
          (owned_indep (proper_tableau K a n e.its_pivots Q (λ h. n) (record { own = λ h l lo. absurd (omega arith); off = λ h k l m lo. absurd (omega arith) }) proper_there) (constants A)
          (λ x c. owns_owned a o x ((at x (low x (constant_placed (A x) c))).1 c)))

      legal_parts : legal M A ≡ true
      legal_parts = legal_from M A independent (λ x l r d. ((at x l).2 r d).1) (and_right (all n (λ x. sits M (owns a o) x (A x))) (apart M A) second)

  pub rows_left_bound : (l : Pivots) → proper K a l Q ≡ true → (J : Set) → constant_rank M J + # b (touching n T J) ≤ rows_left M l J
  unfolding rows_left
  rows_left_bound l f J = omega (arith, constant_rank_rows M (pivoted_tableau K l Q) (proper_same K a n l Q f) J)

  -- a legal assignment of r columns without column x
  abbrev pub Spare : ℕ → ℕ → Type 0
  Spare r x = (A : Assignment) × Legal M A × (size M A ≡ r) × (placing A x ≡ false)

  spares_is : (r x : ℕ) (e : Evidence) → spares M r x e ≡ true → Spare r x
  unfolding spares
  spares_is r x e t =
      let A : Assignment = seats e.its_seats in
      let f : (sound M e && decide (ℕ_discrete (size M A) r)) ≡ true = and_left (sound M e && decide (ℕ_discrete (size M A) r)) (not (placing A x)) t in (
        A,
        sound_legal e (and_left (sound M e) (decide (ℕ_discrete (size M A) r)) f),
        (decide_iff (ℕ_discrete (size M A) r)).0 (and_right (sound M e) (decide (ℕ_discrete (size M A) r)) f),
        not_in (placing A x) (and_right (sound M e && decide (ℕ_discrete (size M A) r)) (not (placing A x)) t),
      )

  pub spared_is : (r : ℕ) (l : List ℕ) (es : List Evidence) → spared M r l es ≡ true → (x : ℕ) → x ∈ among l → Spare r x
  unfolding spared among
  spared_is r [] es t x i = absurd (false≢true i)
  spared_is r (y ∷ l) [] t x i = absurd (false≢true t)
  spared_is r (y ∷ l) (e ∷ es) t x i = elim (or_split (decide (ℕ_discrete x y)) (among l x) i) [
    | inl d ↦ rw ((decide_iff (ℕ_discrete x y)).0 d) (spares_is r y e (and_left (spares M r y e) (spared M r l es) t))
    | inr m ↦ spared_is r l es (and_right (spares M r y e) (spared M r l es) t) x m
  ]

  pub below_is : (l : List ℕ) → below_all M l ≡ true → Part n E (among l)
  unfolding below_all among
  below_is [] t x i = absurd (false≢true i)
  below_is (y ∷ l) t x i =
      let f : (decide (dec_lt y n) && E y) ≡ true = and_left (decide (dec_lt y n) && E y) (below_all M l) t in
      elim (or_split (decide (ℕ_discrete x y)) (among l x) i) [
        | inl d ↦ rw ((decide_iff (ℕ_discrete x y)).0 d) ((decide_iff (dec_lt y n)).0 (and_left (decide (dec_lt y n)) (E y) f), and_right (decide (dec_lt y n)) (E y) f)
        | inr m ↦ below_is l (and_right (decide (dec_lt y n) && E y) (below_all M l) t) x m
      ]

  -- a set of column u and listed columns before it that no legal assignment places
  abbrev pub Blocked : List ℕ → ℕ → Type 0
  Blocked L u = (J : Set) × ((y : ℕ) → y < n → y ∈ J → (y ≡ u) ⊎ ((y < u) × (y ∈ among L))) × (constant_rank M J + # b (touching n T J) < # n J)

  earlier_is : (L : List ℕ) (u y : ℕ) → earlier L u y ≡ true → (y ≡ u) ⊎ ((y < u) × (y ∈ among L))
  unfolding earlier
  earlier_is L u y t = elim (or_split (decide (ℕ_discrete y u)) (decide (dec_lt y u) && among L y) t) [
    | inl d ↦ inl ((decide_iff (ℕ_discrete y u)).0 d)
    | inr m ↦ inr ((decide_iff (dec_lt y u)).0 (and_left (decide (dec_lt y u)) (among L y) m), and_right (decide (dec_lt y u)) (among L y) m)
  ]

  refuses_is : (L : List ℕ) (u : ℕ) (f : Refusal) → refuses M L u f ≡ true → Blocked L u
  unfolding refuses within_set
  refuses_is L u f t =
      let J : Set = among f.its_set in
      let p : Bool = decide (ℕ_discrete u f.its_column) in
      let q : Bool = proper K a f.its_cut Q in
      let r : Bool = within_set M J (earlier L u) in
      let s : Bool = decide (dec_lt (rows_left M f.its_cut J) (# n J)) in
      let pq : (p && q) ≡ true = and_left (p && q) (r && s) t in
      let rs : (r && s) ≡ true = and_right (p && q) (r && s) t in (
        J,
        λ y l i. earlier_is L u y (implied (J y) (earlier L u y) ((all_iff n (λ y. not (J y) || earlier L u y)).0 (and_left r s rs) y l) i),
        omega (arith, rows_left_bound f.its_cut (and_right p q pq) J, (decide_iff (dec_lt (rows_left M f.its_cut J) (# n J))).0 (and_right r s rs)),
      )

  pub refused_is : (L : List ℕ) (u : ℕ) (fs : List Refusal) → refused_by M L u fs ≡ true → Blocked L u
  unfolding refused_by
  refused_is L u [] t = absurd (false≢true t)
  refused_is L u (f ∷ fs) t = elim (or_split (refuses M L u f) (refused_by M L u fs) t) [ inl d ↦ refuses_is L u f d | inr m ↦ refused_is L u fs m ]
