-- What 9, 11 and 14 say of an edit, in this order, behind the model's own numbers. Assumes nothing.
use Rattle.std.specs.Prelude.{ℕ, ◌≤◌, ◌<◌, ◌≡◌, ◌≢◌, ◌↔◌, ◌⊎◌, Bool, true, false, not, [], ◌∷◌}
use Rattle.std.proofs.Math.Path.{refl}
use Rattle.std.proofs.Common.{sym, ◌∙◌, arith}
use Rattle.std.proofs.Math.Logic.{inl, inr}
use Rattle.std.proofs.Math.Bool.{true≢false, Bool-discrete}
use Rattle.std.proofs.Math.Option.{none}
use Rattle.std.proofs.Math.Decide.{ℕ_discrete, dec_lt}
use Rattle.counting.specs.Bools.{not_true, not_both, not_of}
use Rattle.counting.specs.Sets.{Set, ◌∈◌, Some}
use Rattle.counting.specs.Counts.{some?}
use Rattle.columns.specs.Columns.{width}
use Rattle.format.specs.Lists.{All}
use Rattle.format.specs.Refusals.{Cause, number_of, Tests, unless, ◌then◌, first_refusal, row_beyond, column_beyond, already_so, row_test, column_test, named_column, model_tests, refusal}
use Rattle.format.specs.RefusalLaws.{then_passed, then_refused, first_fails, zero_unless}
use Rattle.format.specs.TestLaws.{row_reads, column_reads}
use Rattle.open_models.specs.Open.{Open, Edit, take_off, put_back, set_place, clear_place, column_of, held_tests, row_tests, present_test, presence_tests, own_tests, edit_tests, edit_refusal}
use Rattle.open_models.proofs.JudgeLaws.{present_reads}

-- ---- what each of them says

-- 9: the edit names a parameter row of b or more
abbrev pub RowPast : ℕ → Edit → Type 0
RowPast b (take_off c) = ⊥
RowPast b (put_back c) = ⊥
RowPast b (set_place r c) = b ≤ r
RowPast b (clear_place r c) = b ≤ r

-- 11: a column that it names, or that is held as present, is n or more
abbrev pub ColumnPast : (n : ℕ) → Set → Edit → Type 0
ColumnPast n S e = (n ≤ column_of e) ⊎ Some width (λ x. (x ∈ S) × (n ≤ x))

-- 14: the column to take off is out, or the column to put back is in
abbrev pub AlreadySo : Set → Edit → Type 0
AlreadySo S (take_off c) = S c ≡ false
AlreadySo S (put_back c) = S c ≡ true
AlreadySo S (set_place r c) = ⊥
AlreadySo S (clear_place r c) = ⊥

-- ---- each part of the judgement gives its number, or passes

-- it gives k and this holds, or 0 and it does not
abbrev Gives : Tests → ℕ → Type 0 → Type 0
Gives ts k X = ((first_refusal ts ≡ k) × X) ⊎ ((first_refusal ts ≡ 0) × (X → ⊥))

one_test : (t : Bool) (c : Cause) (X : Type 0) → (t ≡ true → X → ⊥) → (t ≢ true → X) → Gives (unless t c) (number_of c) X
one_test t c X h g = elim (Bool-discrete t true) [
  | yes e ↦ inr (zero_unless t c e, h e)
  | no ne ↦ inl (sym (first_fails t c [] (not_true t ne)), g ne)
]

module _ (O : Open) where
  row_gives : (r : ℕ) → Gives (unless (row_test r O.b) row_beyond) 9 (O.b ≤ r)
  row_gives r = one_test (row_test r O.b) row_beyond (O.b ≤ r) (λ e l. omega (arith, (row_reads r O.b).0 e)) (λ ne. elim (dec_lt r O.b) [ yes l ↦ absurd (ne ((row_reads r O.b).1 l)) | no nl ↦ omega arith ])

  rows_give : (e : Edit) → Gives (row_tests O e) 9 (RowPast O.b e)
  unfolding row_tests first_refusal
  rows_give (take_off c) = inr (refl, λ x. x)
  rows_give (put_back c) = inr (refl, λ x. x)
  rows_give (set_place r c) = row_gives r
  rows_give (clear_place r c) = row_gives r

  presence_gives : (e : Edit) → Gives (presence_tests O e) 14 (AlreadySo O.present e)
  unfolding presence_tests first_refusal
  presence_gives (take_off c) = one_test (O.present c) already_so (O.present c ≡ false) (λ e f. true≢false (sym e ∙ f)) (not_true (O.present c))
  presence_gives (put_back c) = one_test (not (O.present c)) already_so (O.present c ≡ true) (not_both (O.present c)) (λ ne. elim (Bool-discrete (O.present c) true) [ yes e ↦ e | no nd ↦ absurd (ne (not_of (O.present c) nd)) ])
  presence_gives (set_place r c) = inr (refl, λ x. x)
  presence_gives (clear_place r c) = inr (refl, λ x. x)

  abbrev Past : ℕ → Type 0
  Past x = (x ∈ O.present) × (O.n ≤ x)

  past? : (x : ℕ) → Dec (Past x)
  past? x = elim (Bool-discrete (O.present x) true) [
    | no ne ↦ no (λ h. ne h.0)
    | yes e ↦ elim (dec_lt x O.n) [ yes l ↦ no (λ h. omega (arith, h.1)) | no nl ↦ yes (e, omega arith) ]
  ]

  present_gives : Gives (unless (present_test O) column_beyond) 11 (Some width Past)
  present_gives =
      one_test (present_test O) column_beyond (Some width Past)
      (λ e w. omega (arith, (present_reads O).0 e w.0 w.1 w.2.0, w.2.1))
      (λ ne. elim (some? width Past past?) [
        | yes w ↦ w
        | no nw ↦ absurd (ne ((present_reads O).1 (λ x l m. elim (dec_lt x O.n) [ yes h ↦ h | no nh ↦ absurd (nw (x, l, (m, omega arith))) ])))
      ])

  columns_give : (e : Edit) → Gives (named_column O.n (column_of e) then unless (present_test O) column_beyond) 11 (ColumnPast O.n O.present e)
  columns_give e =
      let x = column_of e in
      let n = O.n in
      let here : Gives (named_column n x) 11 (n ≤ x) =
      one_test (column_test x n) column_beyond (n ≤ x) (λ t l. omega (arith, (column_reads x n).0 t)) (λ ne. elim (dec_lt x n) [ yes l ↦ absurd (ne ((column_reads x n).1 l)) | no nl ↦ omega arith ]) in
      elim here [
        | inl h ↦ inl (sym (then_refused (named_column n x) _ 11 (sym h.0) (λ z. omega (arith, z))), inl h.1)
        | inr h ↦ elim present_gives [
          | inl g ↦ inl (sym (then_passed (named_column n x) _ 11 h.0 (sym g.0)), inr g.1)
          | inr g ↦ inr (sym (then_passed (named_column n x) _ 0 h.0 (sym g.0)), λ p. elim p [ inl l ↦ h.1 l | inr w ↦ g.1 w ])
        ]
      ]

-- ---- the whole judgement

-- a list whose causes all have other numbers does not give k
not_given : (k : ℕ) → k ≢ 0 → (ts : Tests) → All (λ t. number_of t.1 ≢ k) ts → first_refusal ts ≢ k
unfolding first_refusal
not_given k h [] v e = h (sym e)
not_given k h ((true, c) ∷ ts) v e = not_given k h ts v.1 e
not_given k h ((false, c) ∷ ts) v e = v.0 e

module _ (O : Open) (e : Edit) where
  abbrev model_refusal : ℕ
  model_refusal = refusal O.p O.n O.a O.b O.cs O.ws none

  -- exactly one of these is so
  cases : (X : Type 0)
      → (model_refusal ≢ 0 → edit_refusal O e ≡ model_refusal → X)
      → (model_refusal ≡ 0 → RowPast O.b e → edit_refusal O e ≡ 9 → X)
      → (model_refusal ≡ 0 → (RowPast O.b e → ⊥) → ColumnPast O.n O.present e → edit_refusal O e ≡ 11 → X)
      → (model_refusal ≡ 0 → (RowPast O.b e → ⊥) → (ColumnPast O.n O.present e → ⊥) → AlreadySo O.present e → edit_refusal O e ≡ 14 → X)
      → (model_refusal ≡ 0 → (RowPast O.b e → ⊥) → (ColumnPast O.n O.present e → ⊥) → (AlreadySo O.present e → ⊥) → edit_refusal O e ≡ 0 → X)
      → X
  unfolding edit_refusal edit_tests own_tests held_tests refusal
  cases X of-model of_row of-column of-presence of_none =
      let ms = held_tests O in
      let rs = row_tests O e in
      let cs = named_column O.n (column_of e) then unless (present_test O) column_beyond in
      let ps = presence_tests O e in
      elim (ℕ_discrete (first_refusal ms) 0) [
        | no nz ↦ of-model nz (sym (then_refused ms (rs then cs then ps) (first_refusal ms) refl nz))
        | yes z ↦ elim (rows_give O e) [
          | inl h ↦ of_row z h.1 (sym (then_passed ms (rs then cs then ps) 9 z (then_refused rs (cs then ps) 9 (sym h.0) (λ q. omega (arith, q)))))
          | inr h ↦ elim (columns_give O e) [
            | inl g ↦ of-column z h.1 g.1 (sym (then_passed ms (rs then cs then ps) 11 z (then_passed rs (cs then ps) 11 h.0 (then_refused cs ps 11 (sym g.0) (λ q. omega (arith, q))))))
            | inr g ↦ elim (presence_gives O e) [
              | inl f ↦ of-presence z h.1 g.1 f.1 (sym (then_passed ms (rs then cs then ps) 14 z (then_passed rs (cs then ps) 14 h.0 (then_passed cs ps 14 g.0 (sym f.0)))))
              | inr f ↦ of_none z h.1 g.1 f.1 (sym (then_passed ms (rs then cs then ps) 0 z (then_passed rs (cs then ps) 0 h.0 (then_passed cs ps 0 g.0 (sym f.0)))))
            ]
          ]
        ]
      ]

  other_than_model : (k : ℕ) → 8 < k → k ≢ 13 → model_refusal ≢ k
  unfolding refusal model_tests
  other_than_model k l ne =
      not_given k (λ z. omega (arith, z, l)) (model_tests O.p O.n O.a O.b O.cs O.ws none)
      (λ q. omega (arith, q), (λ q. omega (arith, q), (λ q. omega (arith, q), (λ q. omega (arith, q), (λ q. omega (arith, q), (λ q. omega (arith, q), (λ q. omega (arith, q), (λ q. ne (sym q), tt))))))))

  -- a model that a rank call refuses is refused so,
  pub reads_model : model_refusal ≢ 0 → edit_refusal O e ≡ model_refusal
  reads_model nz = cases (edit_refusal O e ≡ model_refusal) (λ _ q. q) (λ z _ _. absurd (nz z)) (λ z _ _ _. absurd (nz z)) (λ z _ _ _ _. absurd (nz z)) (λ z _ _ _ _. absurd (nz z))

  -- then 9,
  pub reads_9 : (edit_refusal O e ≡ 9) ↔ ((model_refusal ≡ 0) × RowPast O.b e)
  reads_9 = (
    λ q. cases ((model_refusal ≡ 0) × RowPast O.b e)
        (λ _ g. absurd (other_than_model 9 (omega arith) (λ z. omega (arith, z)) (sym g ∙ q)))
        (λ z h _. (z, h)) (λ _ _ _ g. absurd (omega (arith, q, g))) (λ _ _ _ _ g. absurd (omega (arith, q, g))) (λ _ _ _ _ g. absurd (omega (arith, q, g))),
    λ h. cases (edit_refusal O e ≡ 9) (λ nz _. absurd (nz h.0)) (λ _ _ g. g) (λ _ nr _ _. absurd (nr h.1)) (λ _ nr _ _ _. absurd (nr h.1)) (λ _ nr _ _ _. absurd (nr h.1)),
  )

  -- then 11,
  pub reads_11 : (edit_refusal O e ≡ 11) ↔ ((model_refusal ≡ 0) × (RowPast O.b e → ⊥) × ColumnPast O.n O.present e)
  reads_11 = (
    λ q. cases ((model_refusal ≡ 0) × (RowPast O.b e → ⊥) × ColumnPast O.n O.present e)
        (λ _ g. absurd (other_than_model 11 (omega arith) (λ z. omega (arith, z)) (sym g ∙ q)))
        (λ _ _ g. absurd (omega (arith, q, g))) (λ z nr h _. (z, nr, h)) (λ _ _ _ _ g. absurd (omega (arith, q, g))) (λ _ _ _ _ g. absurd (omega (arith, q, g))),
    λ h. cases (edit_refusal O e ≡ 11) (λ nz _. absurd (nz h.0)) (λ _ k _. absurd (h.1 k)) (λ _ _ _ g. g) (λ _ _ nc _ _. absurd (nc h.2)) (λ _ _ nc _ _. absurd (nc h.2)),
  )

  -- and then 14
  pub reads_14 : (edit_refusal O e ≡ 14) ↔ ((model_refusal ≡ 0) × (RowPast O.b e → ⊥) × (ColumnPast O.n O.present e → ⊥) × AlreadySo O.present e)
  reads_14 = (
    λ q. cases ((model_refusal ≡ 0) × (RowPast O.b e → ⊥) × (ColumnPast O.n O.present e → ⊥) × AlreadySo O.present e)
        (λ _ g. absurd (other_than_model 14 (omega arith) (λ z. omega (arith, z)) (sym g ∙ q)))
        (λ _ _ g. absurd (omega (arith, q, g))) (λ _ _ _ g. absurd (omega (arith, q, g))) (λ z nr nc h _. (z, nr, nc, h)) (λ _ _ _ _ g. absurd (omega (arith, q, g))),
    λ h. cases (edit_refusal O e ≡ 14) (λ nz _. absurd (nz h.0)) (λ _ k _. absurd (h.1 k)) (λ _ _ k _. absurd (h.2 k)) (λ _ _ _ _ g. g) (λ _ _ _ ns _. absurd (ns h.3)),
  )

  pub reads_0 : (edit_refusal O e ≡ 0) ↔ ((model_refusal ≡ 0) × (RowPast O.b e → ⊥) × (ColumnPast O.n O.present e → ⊥) × (AlreadySo O.present e → ⊥))
  reads_0 = (
    λ q. cases ((model_refusal ≡ 0) × (RowPast O.b e → ⊥) × (ColumnPast O.n O.present e → ⊥) × (AlreadySo O.present e → ⊥))
        (λ nz g. absurd (nz (sym g ∙ q))) (λ _ _ g. absurd (omega (arith, q, g))) (λ _ _ _ g. absurd (omega (arith, q, g))) (λ _ _ _ _ g. absurd (omega (arith, q, g))) (λ z nr nc ns _. (z, nr, nc, ns)),
    λ h. cases (edit_refusal O e ≡ 0) (λ nz _. absurd (nz h.0)) (λ _ k _. absurd (h.1 k)) (λ _ _ k _. absurd (h.2 k)) (λ _ _ _ k _. absurd (h.3 k)) (λ _ _ _ _ g. g),
  )
