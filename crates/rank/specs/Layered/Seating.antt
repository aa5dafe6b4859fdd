-- Valid states as states of the graph: a placed column moves to a free row, an unplaced one enters. Assumes nothing.
use Rattle.std.specs.Prelude.{ℕ, ◌+◌, ◌≤◌, ◌<◌, true, ◌≢◌, ◌≡◌, refl}
use Rattle.std.proofs.Math.Path.{sym, ap}
use Rattle.std.proofs.Common.{◌∙◌, arith}
use Rattle.std.proofs.Math.Decide.{ℕ_discrete}
use Rattle.counting.specs.Sets.{set}
use Rattle.counting.specs.Counts.{set_other, set_same}
use Rattle.rank.specs.Linear.Kernels.{Same, same_refl}
use Rattle.rank.specs.Linear.Tableaus.{Tableau}
use Rattle.rank.specs.Graph.States.{Moved, State}
use Rattle.rank.specs.Graph.Augment.{Pivoting}
use Rattle.rank.specs.Layered.Model.{Model}
use Rattle.rank.specs.Layered.Valid.{Valid, free, seat_valid, seated, seated_keeps, state, touch}

module _ (M : Model) where
  open M use {K, a, b, n, Q, T, E}
  open K use {F, 𝟘, 𝟙}

  -- a state is valid if it is read off a tableau that has the kernel of Q and its owned columns as unit columns
  pub record Good (s : State n (a + b)) : Type 0 where
    pub P : ℕ → ℕ → F
    pub reads : (q x : ℕ) → s.touch q x ≡ touch M P q x
    pub kernel : Same K a n Q P
    pub tableau : Tableau K a n P s.owner

  -- the two notions are one
  pub good_valid : (s : State n (a + b)) (g : Good s) → Valid M g.P s.owner
  good_valid s g = record {
    kernel = g.kernel;
    tableau = g.tableau;
    touches = λ q l lo. sym (g.reads q (s.owner q)) ∙ s.touches_owner q l lo;
    one_row = s.owns_one;
  }

  pub valid_good : (P : ℕ → ℕ → F) (o : ℕ → ℕ) (v : Valid M P o) → Good (state M P o v)
  unfolding state
  valid_good P o v = record { P = P; reads = λ q x. refl; kernel = v.kernel; tableau = v.tableau }

  -- nothing is placed
  pub empty_valid : Valid M Q (λ q. n)
  empty_valid = record {
    kernel = same_refl;
    tableau = record { own = λ h l lo. absurd (omega arith); off = λ h k l m lo. absurd (omega arith) };
    touches = λ q l lo. absurd (omega arith);
    one_row = λ q r l m lo. absurd (omega arith);
  }

  -- the two seatings
  module _ (s : State n (a + b)) (g : Good s) (t q q' : ℕ) (lt : t < n) (lq : q < a + b) (f : n ≤ s.owner q) (h : s.touch q t ≡ true) (lq' : q' < a + b) (o : s.owner q' ≡ t) where
    -- the owners once t has left its row
    unfoldable pub freed : ℕ → ℕ
    freed = set s.owner q' n

    gone : (r : ℕ) → r < a + b → freed r ≢ t
    unfolding freed
    gone r l e = elim (ℕ_discrete r q') [
      | yes d ↦ omega (arith, ap (set s.owner q' n) d, set_same s.owner q' n)
      | no nd ↦
          let k : s.owner r ≡ t = sym (set_other s.owner q' n r nd) ∙ e in
          nd (s.owns_one r q' l lq' (omega arith) (cc))
    ]

    pub moved_valid : Valid M (seated M g.P q t) (set freed q t)
    unfolding freed
    moved_valid = seat_valid M g.P freed (free M g.P s.owner q' (good_valid s g)) q t lt gone lq (sym (g.reads q t) ∙ h)

    pub moved : Moved s (state M (seated M g.P q t) (set freed q t) moved_valid) t q q'
    unfolding state freed
    moved = record {
      column = lt;
      new_row = lq;
      new_free = f;
      old_row = lq';
      old_owned = o;
      now_owned = set_same (set s.owner q' n) q t;
      now_free = omega (arith, set_other (set s.owner q' n) q t q' (λ e. omega (arith, ap s.owner e)), set_same s.owner q' n);
      others = λ r l ne ne'. set_other (set s.owner q' n) q t r ne ∙ set_other s.owner q' n r ne';
      untouched = λ z e r l. seated_keeps M g.P q t z (sym (g.reads q z) ∙ e) r ∙ sym (g.reads r z);
    }

  pub pivoting : Pivoting n (a + b) Good
  unfolding state
  pivoting = record {
    move = λ s t q q' g lt lq f h lq' o. let v : Valid M (seated M g.P q t) (set (freed s g t q q' lt lq f h lq' o) q t) = moved_valid s g t q q' lt lq f h lq' o in
        (state M _ _ v, valid_good _ _ v, moved s g t q q' lt lq f h lq' o);
    enter = λ s x q g lx new lq f h.
        let v : Valid M (seated M g.P q x) (set s.owner q x) = seat_valid M g.P s.owner (good_valid s g) q x lx (λ r l e. new (r, l, e)) lq (sym (g.reads q x) ∙ h) in (
          state M _ _ v,
          valid_good _ _ v,
          record { column = lx; row = lq; was_free = f; now_owned = set_same s.owner q x; others = λ r l ne. set_other s.owner q x r ne },
        );
  }
