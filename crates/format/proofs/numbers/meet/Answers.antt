-- `numbers::meet` meets its contract. Assumes nothing.
use Rattle.std.proofs.Common.{ℕ, ◌≡◌, ◌+◌, ◌*◌, ◌/◌, ◌%◌, ◌^◌, ◌<◌, ◌∷◌, [], true, arith, rules, refl, sym, ap, ◌∙◌, subst, get_or, set}
use Rattle.counting.specs.Bools.{not_true}
use Rattle.columns.specs.Columns.{word_width, members, inserted_in}
use Rattle.format.specs.NumberTable.{place, Meets}
use Rattle.format.specs.NumberLaws.{bit_new, meets_again, meets_first}
use Rattle.format.proofs.numbers.meet.Goals as goal

-- the place of the number of two bytes
place_of : (lo hi p : ℕ) → lo < 256 → hi < 256 → p ≡ 256 * ((lo + hi) % 256) + hi → p ≡ place (lo + 256 * hi)
place_of lo hi p l h e =
    let low : (lo + 256 * hi) % 256 ≡ lo = omega arith in
    let high : (lo + 256 * hi) / 256 ≡ hi = omega arith in
    e ∙ rw (low, high) refl

pub returns-then-next-word : goal.returns-then-next-word
returns-then-next-word c =
    let t = c.args.table.now in
    let k = c.args.lo + 256 * c.args.hi in
    let p = 256 * ((c.args.lo + c.args.hi) % 256) + c.args.hi in
    let w = get_or t (p / word_width) 0 in
    let q : p ≡ place k = place_of c.args.lo c.args.hi p (omega arith) (omega arith) refl in
    let m = ap (λ (i : ℕ). members (get_or t (i / word_width) 0) (i % word_width)) q in
    let old : w < 2 ^ word_width = search (rules, c.type_inv.table (p / word_width)) in
    let bit = bit_new c.with_bit-next.result w (p % word_width) c.with_bit-next.type_inv old (omega arith) c.with_bit-next.ensures in
    meets_again t k (omega arith) (sym m ∙ bit.0 c.if-next-word.true)

pub returns : goal.returns
returns c =
    let t = c.args.table.now in
    let k = c.args.lo + 256 * c.args.hi in
    let p = 256 * ((c.args.lo + c.args.hi) % 256) + c.args.hi in
    let w = get_or t (p / word_width) 0 in
    let n = c.with_bit-next.result in
    let q : p ≡ place k = place_of c.args.lo c.args.hi p (omega arith) (omega arith) refl in
    let m = ap (λ (i : ℕ). members (get_or t (i / word_width) 0) (i % word_width)) q in
    let old : w < 2 ^ word_width = search rules in
    let bit = bit_new n w (p % word_width) c.with_bit-next.type_inv old (omega arith) c.with_bit-next.ensures in
    subst (λ (i : ℕ). Meets (k ∷ []) t (set t (i / word_width) n) true) (sym q)
    (meets_first t k (omega arith) n c.requires (c.with_bit-next.ensures ∙ ap (λ (i : ℕ). inserted_in word_width (members (get_or t (i / word_width) 0)) (i % word_width)) q)
    (not_true _ (λ x. c.if-next-word.false (bit.1 (m ∙ x)))))
