-- Laws about the search: its layers are those of the exchange graph, and it ends in the first with a terminal column, or in one that is closed. Assumes
-- nothing.
use Prim.Native.Nat.{ℕ, zero, suc, ◌+◌, ◌-◌, ◌≤◌, ◌<◌}
use mathlib.Core.Path.{◌≡◌, sym, ap, ◌∙◌}
use mathlib.Core.Logic.{◌↔◌, ◌⊎◌, inl, inr}
use mathlib.Core.Bool.{Bool, true, not}
use native.Mathlib.Omega.{arith}
use native.Mathlib.Decide.{ℕ_discrete, dec_le}
use native.Mathlib.Numerals.{add-one}
use Rattle.counting.specs.Bools.{true?, and_in, and_left, or_left, or_right, or_split, not_of}
use Rattle.counting.specs.Sets.{Set, ◌∈◌, ◌∩◌, ◌∪◌, ∁, #, Some}
use Rattle.columns.specs.Columns.{width}
use Rattle.columns.specs.Words.SetLaws.{nothing_in}
use Rattle.rank.specs.Graph.States.{State, Terminal, Arc}
use Rattle.rank.specs.Graph.Layers.{ArcClosed, layer, layer_start, layer_next, grow, grow_old, grow_arc, grow_split, stable}
use Rattle.rank.specs.Graph.Search.{Hit}
use Rattle.exchange.specs.Code.Scanning.{Owner, FreeRow, AllOwned}
use Rattle.exchange.specs.Code.Searching.{Shows, Ended, Final}

module _ {n N : ℕ} (s : State n N) (S : Set) where
  -- layers grow
  layer_more : (i k x : ℕ) → x ∈ layer s S i → x ∈ layer s S (k + i)
  layer_more i zero x e = let z : 0 + i ≡ i = omega arith in rw z e
  layer_more i (suc k) x e = let z : suc k + i ≡ suc (k + i) = omega arith in rw (z, layer_next s S (k + i)) (grow_old s (layer s S (k + i)) x (layer_more i k x e))

  -- until they are closed
  layer_stays : (i k x : ℕ) → ArcClosed s (layer s S i) → x ∈ layer s S (k + i) → x ∈ layer s S i
  layer_stays i zero x c e = let z : 0 + i ≡ i = omega arith in rw z at e
  layer_stays i (suc k) x c e =
      let z : suc k + i ≡ suc (k + i) = omega arith in
      let g : x ∈ grow s (layer s S (k + i)) = rw (z, layer_next s S (k + i)) at e in
      elim (grow_split s (layer s S (k + i)) x g) [
        | inl o ↦ layer_stays i k x c o
        | inr f ↦ c f.0 x f.1 (layer_stays i k f.0 c f.2.0) f.2.1
      ]

  -- two closed layers are one
  last_layer : (i x : ℕ) → ArcClosed s (layer s S i) → (x ∈ layer s S i) ↔ (x ∈ layer s S n)
  last_layer i x c = elim (dec_le i n) [
    | yes l ↦ let z : n - i + i ≡ n = omega arith in (λ e. rw z at (layer_more i (n - i) x e), λ e. layer_stays i (n - i) x c (rw z e))
    | no nl ↦ let z : i - n + n ≡ i = omega arith in (λ e. layer_stays n (i - n) x (stable s S) (rw z e), λ e. rw z at (layer_more n (i - n) x e))
  ]

  -- the last layer has all of them
  pub in_last : (i x : ℕ) → x ∈ layer s S i → x ∈ layer s S n
  in_last i x e = elim (dec_le i n) [
    | yes l ↦ let z : n - i + i ≡ n = omega arith in rw z at (layer_more i (n - i) x e)
    | no nl ↦ let z : i - n + n ≡ i = omega arith in layer_stays n (i - n) x (stable s S) (rw z e)
  ]

  module _ (E : Set) where
    -- the search is in layer `depth`: reached has the columns of the layers so far, and those of them that are not in front have been read
    pub record Reaching (reached front : Set) (depth : ℕ) : Type 0 where
      pub below : (x : ℕ) → x ∈ reached → (x < n) × (x ∈ E)
      pub same : (x : ℕ) → (x ∈ reached) ↔ (x ∈ layer s S depth)
      pub ahead : (x : ℕ) → x ∈ front → x ∈ reached
      pub behind : (x : ℕ) → x ∈ reached → (x ∈ front) ⊎ ((Terminal s x → ⊥) × ((y : ℕ) → Arc s x y → y ∈ reached))
      pub no_earlier : (k : ℕ) → k < depth → Hit s S k → ⊥

    pub reaching_start : ((x : ℕ) → x ∈ S → (x < n) × (x ∈ E)) → Reaching S S 0
    reaching_start b = record {
      below = b;
      same = λ x. rw (layer_start s S) ((λ e. e), λ e. e);
      ahead = λ x e. e;
      behind = λ x e. inl e;
      no_earlier = λ k l. absurd (omega arith);
    }

    module _ {tch : ℕ → ℕ → Bool} {own : ℕ → ℕ} (h : Shows E s tch own) {reached front : Set} {depth : ℕ} (r : Reaching reached front depth) where
      pub ended : (column row : ℕ) → FreeRow n N tch own front column row → Ended s S column row depth
      ended column row w =
          let b : (column < n) × (column ∈ E) = r.below column (r.ahead column w.inside) in
          record {
            below = b.0;
            is_row = w.below;
            inside = (r.same column).0 (r.ahead column w.inside);
            is_free = omega (arith, h.owner row w.below, w.is_free);
            touches = sym (h.touch row column w.below b.0 b.1) ∙ w.touches;
            no_earlier = r.no_earlier;
          }

      module _ {next : Set} (d : AllOwned n N tch own front 0 N next) where
        -- what has been read of a column in front
        read_rows : (x q : ℕ) → x ∈ front → q < N → s.touch q x ≡ true → (own q < n) × (own q ∈ next)
        read_rows x q e l t = let b : (x < n) × (x ∈ E) = r.below x (r.ahead x e) in d.rows x e q (omega arith) l (h.touch q x l b.0 b.1 ∙ t)

        no_terminal : (x : ℕ) → x ∈ front → Terminal s x → ⊥
        no_terminal x e t = omega (arith, (read_rows x t.0 e t.1 t.2.1).0, h.owner t.0 t.1)

        arcs : (x y : ℕ) → x ∈ front → Arc s x y → y ∈ next
        arcs x y e a = let q : ℕ = a.1.0 in ap next (sym (h.owner q a.1.1 ∙ a.1.2.1)) ∙ (read_rows x q e a.1.1 a.1.2.0).1

        back : (y : ℕ) → y ∈ next → ((y < n) × (y ∈ E)) × Some n (λ x. (x ∈ front) × Arc s x y)
        back y e =
            let o : Owner n N tch own front y = d.from y e in
            let b : (o.column < n) × (o.column ∈ E) = r.below o.column (r.ahead o.column o.inside) in
            let own_y : s.owner o.row ≡ y = sym (h.owner o.row o.below) ∙ o.owns in
            let offered : y ∈ E = rw own_y at (h.offered o.row o.below (omega (arith, o.taken))) in
            ((o.taken, offered), (o.column, b.0, (o.inside, (o.taken, (o.row, o.below, (sym (h.touch o.row o.column o.below b.0 b.1) ∙ o.touches, own_y))))))

        no_hit : Hit s S depth → ⊥
        no_hit t = elim (r.behind t.0 ((r.same t.0).1 t.2.0)) [ inl f ↦ no_terminal t.0 f t.2.1 | inr g ↦ g.0 t.2.1 ]

        arc_to : (x y : ℕ) → x ∈ reached → Arc s x y → y ∈ reached ∪ next
        arc_to x y e a = elim (r.behind x e) [
          | inl f ↦ or_right (reached y) (next y) (arcs x y f a)
          | inr g ↦ or_left (reached y) (next y) (g.1 y a)
        ]

        read : (x : ℕ) → x ∈ reached → (Terminal s x → ⊥) × ((y : ℕ) → Arc s x y → y ∈ reached ∪ next)
        read x o = (elim (r.behind x o) [ inl f ↦ no_terminal x f | inr g ↦ g.0 ], λ y a. arc_to x y o a)

        -- the next layer
        to : (x : ℕ) → x ∈ reached ∪ next → x ∈ layer s S (depth + 1)
        to x e = rw (add-one depth, layer_next s S depth) (elim (or_split (reached x) (next x) e) [
          | inl o ↦ grow_old s (layer s S depth) x ((r.same x).0 o)
          | inr f ↦ let w : Some n (λ z. (z ∈ front) × Arc s z x) = (back x f).1 in
              grow_arc s (layer s S depth) w.0 x w.1 ((r.same w.0).0 (r.ahead w.0 w.2.0)) w.2.1
        ])

        from : (x : ℕ) → x ∈ layer s S (depth + 1) → x ∈ reached ∪ next
        from x e =
            let g : x ∈ grow s (layer s S depth) = rw (add-one depth, layer_next s S depth) at e in
            elim (grow_split s (layer s S depth) x g) [
              | inl o ↦ or_left (reached x) (next x) ((r.same x).1 o)
              | inr f ↦ arc_to f.0 x ((r.same f.0).1 f.2.0) f.2.1
            ]

        pub reaching_more : Reaching (reached ∪ next) (next ∩ ∁ reached) (depth + 1)
        reaching_more = record {
          below = λ x e. elim (or_split (reached x) (next x) e) [ inl o ↦ r.below x o | inr f ↦ (back x f).0 ];
          same = λ x. (to x, from x);
          ahead = λ x e. or_right (reached x) (next x) (and_left (next x) (not (reached x)) e);
          behind = λ x e. elim (true? (reached x)) [
            | yes o ↦ inr (read x o)
            | no no' ↦ elim (or_split (reached x) (next x) e) [ inl o ↦ inr (read x o) | inr f ↦ inl (and_in f (not_of (reached x) no')) ]
          ];
          no_earlier = λ k l t. elim (ℕ_discrete k depth) [ yes e ↦ no_hit (rw e at t) | no ne ↦ r.no_earlier k (omega arith) t ];
        }

        -- nothing new: the search is at its end
        pub final : n ≤ width → # width (next ∩ ∁ reached) ≡ 0 → Final s S reached
        final hn z = record {
          same = λ x. (λ e. (last_layer depth x shut).0 ((r.same x).0 e), λ e. (r.same x).1 ((last_layer depth x shut).1 e));
          is_closed = record {
            no_terminal = λ x l e t. no_hit (x, l, ((last_layer depth x shut).1 e, t));
            closed = stable s S;
          };
        }
          where
            old : (y : ℕ) → y ∈ next → y ∈ reached
            old y f = elim (true? (reached y)) [
              | yes o ↦ o
              | no no' ↦ absurd (nothing_in width (next ∩ ∁ reached) z y (omega (arith, (back y f).0.0)) (and_in f (not_of (reached y) no')))
            ]

            shut : ArcClosed s (layer s S depth)
            shut x y l e a = (r.same y).0 (elim (or_split (reached y) (next y) (arc_to x y ((r.same x).1 e) a)) [ inl o ↦ o | inr f ↦ old y f ])
