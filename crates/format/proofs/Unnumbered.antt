-- What an unnumbered file says before its rows, field after field, as the code goes through them, and what its header says of it. Assumes nothing.
use Prim.Native.Nat.{ℕ}
use mathlib.Core.Path.{◌≡◌, refl, sym, ap, ◌∙◌}
use mathlib.Core.Logic.{◌≢◌}
use mathlib.Core.List.{List}
use Rattle.std.specs.Prelude.{Ok, Err}
use Rattle.format.specs.declared.header.Header.{Header}
use Rattle.format.specs.declared.refusals.Refusal.{Refusal}
use Rattle.format.specs.Refused.{refusal_number}
use Rattle.format.specs.Refusals.{first_refusal}
use Rattle.format.specs.File.Piece.{closed, said_rest}
use Rattle.format.specs.File.Format.{prime_field, sizes_field, size_fields, fields, decode, Said, Says, HeaderRead, refused_header}
use Rattle.format.specs.File.Unnumbered.{unnumbered_rows, unnumbered_sizes, unnumbered_fields, unnumbered_judge, unnumbered_header}
use Rattle.format.specs.File.Steps.{prime_said, sizes_said}
use Rattle.format.proofs.Judging.{seq_refused, seq_passed}
use Rattle.format.proofs.Headers.{said_refused, said_passed, said_refusal, second, third, p_said, all_said, prime_rest, sizes_rest, prime_passes, sizes_pass}

pub unnumbered_header_refusal : (s : List ℕ) → (unnumbered_header s).refusal ≡ unnumbered_judge s
unfolding unnumbered_header
unnumbered_header_refusal s = said_refusal (unnumbered_judge s) _ refl

pub unnumbered_header_refused : (s : List ℕ) (k : ℕ) → k ≡ unnumbered_judge s → k ≢ 0 → unnumbered_header s ≡ refused_header k
unfolding unnumbered_header
unnumbered_header_refused s k e z = sym (said_refused _ k e z)

pub unnumbered_header_accepted : (s : List ℕ) → unnumbered_judge s ≡ 0
    → unnumbered_header s ≡ record { refusal = 0; p = (decode s).p; n = (decode s).n; a = (decode s).a; b = (decode s).b }
unfolding unnumbered_header
unnumbered_header_accepted s e = sym (said_passed _ 0 (sym e) refl)

-- ---- its fields: h is what that of p says, g what that of the sizes says, k the refusal of the rows

module _ (s : List ℕ) {h : Said} (said : h ≡ prime_said s) where
  prime_refusal : h.refusal ≡ first_refusal (prime_field.tests s)
  unfolding prime_said
  prime_refusal = ap (λ (x : Said). x.refusal) said ∙ said_refusal _ (p_said s) refl

  pub prime_stops : h.refusal ≢ 0 → h ≡ unnumbered_header s
  unfolding prime_said unnumbered_judge unnumbered_fields
  prime_stops z =
      said ∙ sym (said_refused (p_said s) h.refusal prime_refusal z)
      ∙ sym (unnumbered_header_refused s h.refusal (seq_refused prime_field unnumbered_sizes s h.refusal prime_refusal z) z)

  module _ (z : h.refusal ≡ 0) {t : List ℕ} (next : t ≡ said_rest s) {g : Said} (then-said : g ≡ sizes_said t h) where
    prime_passed : first_refusal (prime_field.tests s) ≡ 0
    prime_passed = sym prime_refusal ∙ z

    next_is : t ≡ second s
    next_is = next ∙ prime_rest s prime_passed

    sizes_are : g ≡ sizes_said (second s) (p_said s)
    sizes_are = then-said ∙ rw (next_is, said, prime_passes s prime_passed) refl

    sizes_refusal : g.refusal ≡ first_refusal (sizes_field.tests (second s))
    unfolding sizes_said
    sizes_refusal = ap (λ (x : Said). x.refusal) sizes_are ∙ said_refusal _ (all_said s) refl

    pub sizes_stop : g.refusal ≢ 0 → g ≡ unnumbered_header s
    unfolding sizes_said unnumbered_judge unnumbered_fields unnumbered_sizes
    sizes_stop y =
        sizes_are ∙ sym (said_refused (all_said s) g.refusal sizes_refusal y)
        ∙ sym (unnumbered_header_refused s g.refusal (seq_passed prime_field unnumbered_sizes s g.refusal prime_passed (seq_refused sizes_field (unnumbered_rows (prime_field.dec s)) (second s) g.refusal sizes_refusal y)) y)

    module _ (y : g.refusal ≡ 0) {u : List ℕ} (last : u ≡ said_rest t) {k : ℕ} (rows : k ≡ first_refusal (closed (unnumbered_rows g.p (g.n, g.a, g.b)) u)) where
      sizes_passed : first_refusal (sizes_field.tests (second s)) ≡ 0
      sizes_passed = sym sizes_refusal ∙ y

      all_are : g ≡ all_said s
      all_are = sizes_are ∙ sizes_pass s prime_passed sizes_passed

      last_is : u ≡ third s
      last_is = last ∙ ap said_rest next_is ∙ sizes_rest s sizes_passed

      judge_is : k ≡ unnumbered_judge s
      unfolding unnumbered_judge unnumbered_fields unnumbered_sizes
      judge_is =
          rows ∙ rw (all_are, last_is) refl
          ∙ seq_passed prime_field unnumbered_sizes s _ prime_passed (seq_passed sizes_field (unnumbered_rows (prime_field.dec s)) (second s) _ sizes_passed refl)

      pub rows_stop : k ≢ 0 → refused_header k ≡ unnumbered_header s
      rows_stop x = sym (unnumbered_header_refused s k judge_is x)

      pub rows_end : k ≡ 0 → g ≡ unnumbered_header s
      unfolding decode fields size_fields
      rows_end x = all_are ∙ sym (unnumbered_header_accepted s (sym judge_is ∙ x))

-- ---- what a header read says of the file
module _ (s : List ℕ) {h : Header} (r : HeaderRead (unnumbered_header s) (Ok h)) where
  pub unnumbered_read_accepted : unnumbered_judge s ≡ 0
  unnumbered_read_accepted = sym (r.refusal_is ∙ unnumbered_header_refusal s)

  pub unnumbered_read_sizes : Says (record { refusal = 0; p = (decode s).p; n = (decode s).n; a = (decode s).a; b = (decode s).b }) h
  unnumbered_read_sizes = rw (unnumbered_header_accepted s unnumbered_read_accepted) at r.given

pub unnumbered_read_refused : (s : List ℕ) {e : Refusal} → HeaderRead (unnumbered_header s) (Err e) → refusal_number e ≡ unnumbered_judge s
unnumbered_read_refused s r = r.refusal_is ∙ unnumbered_header_refusal s
