-- A file cut off behind the longest file is judged as the whole. Assumes nothing.
use Rattle.std.specs.Prelude.{ℕ, zero, suc, ◌+◌, ◌*◌, ◌-◌, ◌≤◌, ◌<◌, ◌≡◌, refl, Bool, ◌&&◌, cond, List, [], ◌∷◌, ltb, eqb, length, get_or, take, drop}
use Rattle.std.proofs.Common.{sym, ap, ap₂, ◌∙◌, inl, inr, arith, suc-mul, mul-le-mul, get_or-take, take-take}
use Rattle.std.proofs.Math.Logic.{by_cases}
use Rattle.std.proofs.Math.Decide.{ℕ_discrete}
use Rattle.std.proofs.Math.Seq.{take-nil}
use Rattle.counting.specs.Bools.{iff_eq}
use Rattle.counting.specs.Sets.{#}
use Rattle.counting.specs.Counts.{#-le}
use Rattle.columns.specs.Columns.{members}
use Rattle.limits.specs.Limits.{most_columns, most_rows, set_bytes, longest_file}
use Rattle.format.specs.Numbers.{parameter_count}
use Rattle.format.specs.NumberLaws.{split}
use Rattle.format.specs.Refusals.{Tests, unless, ◌then◌, first_refusal, trailing, head_test, body_test, due_test, end_test}
use Rattle.format.specs.RefusalLaws.{then_zero, unless_zero}
use Rattle.format.specs.TestLaws.{head_reads, body_reads, end_reads, size_reads}
use Rattle.format.specs.File.Piece.{Body, Piece, head_tests, field, many, many_tests, many_dec, many_rest, chain, chain_tests, chain_dec, chain_rest, either, seq, closed}
use Rattle.format.specs.File.RowSizes.{parameter_size_most}
use Rattle.format.specs.File.Format.{sizes_body, prime_body, constant_body, parameter_body, number_body, end_body, constant_row, parameter_size, parameter_row, number_field, numbered_row, and_its_numbers, numbered_rows, numbered_test, ParameterRows, parameter_rows, end_field, row_fields}
use Rattle.format.specs.File.Format.{prime_tag, sizes_tag, constant_tag, parameter_tag, number_tag, end_tag, prime_field, sizes_field, size_fields, fields, judge}
use Rattle.format.proofs.Judging.{seq_refused, seq_passed}

-- ---- the front of a list

-- an element count of the front against one that it has room for
pub front_least : (j k : ℕ) (s : List ℕ) → j ≤ k → (j ≤ length s → j ≤ length (take k s)) × (j ≤ length (take k s) → j ≤ length s)
front_least zero k s h = (λ l. omega arith, λ l. omega arith)
front_least (suc j) zero s h = absurd (omega arith)
front_least (suc j) (suc k) [] h = (λ l. l, λ l. l)
front_least (suc j) (suc k) (x ∷ s) h =
    let i = front_least j k s (omega arith) in
    (λ l. (let m = i.0 (omega arith) in omega arith), λ l. (let m = i.1 (omega arith) in omega arith))

pub front_drop : (j k : ℕ) (s : List ℕ) → j ≤ k → drop j (take k s) ≡ take (k - j) (drop j s)
front_drop zero k s h = let e : k ≡ k - 0 = omega arith in ap (λ (i : ℕ). take i s) e
front_drop (suc j) zero s h = absurd (omega arith)
front_drop (suc j) (suc k) [] h = sym (take-nil (suc k - suc j))
front_drop (suc j) (suc k) (x ∷ s) h =
    let e : k - j ≡ suc k - suc j = omega arith in
    front_drop j k s (omega arith) ∙ ap (λ (i : ℕ). take i (drop j s)) e

-- ---- a piece that reads so many bytes at most

-- cut at place k or later it is tested and read the same, and what follows it is cut where so many bytes less are left
pub record Local {A : Type 0} (P : Piece A) (most : ℕ) : Type 0 where
  pub tests_same : (k : ℕ) (s : List ℕ) → most ≤ k → P.tests (take k s) ≡ P.tests s
  pub dec_same : (k : ℕ) (s : List ℕ) → most ≤ k → P.dec (take k s) ≡ P.dec s
  pub used : List ℕ → ℕ
  pub used_most : (s : List ℕ) → used s ≤ most
  pub rest_cut : (k : ℕ) (s : List ℕ) → most ≤ k → P.rest (take k s) ≡ take (k - used s) (P.rest s)

-- a body of that size against what remains
body_front : (size k : ℕ) (s : List ℕ) → 3 + size ≤ k → body_test size (take k s) ≡ body_test size s
body_front size k s h =
    let g = front_least (3 + size) k s h in
    iff_eq _ _
    (λ e. (body_reads size s).1 (move (length (take k s)) (length s) g.1 ((body_reads size (take k s)).0 e)))
    (λ e. (body_reads size (take k s)).1 (move (length s) (length (take k s)) g.0 ((body_reads size s).0 e)))
  where
    move : (l m : ℕ) → (3 + size ≤ l → 3 + size ≤ m) → size ≤ l - 3 → size ≤ m - 3
    move l m f e = by_cases (ℕ_discrete size 0) (λ z. omega arith) (λ z. (let q = f (omega arith) in omega arith))

head_same : (tag size k : ℕ) (s : List ℕ) → 3 + size ≤ k → head_tests tag size (take k s) ≡ head_tests tag size s
unfolding head_tests due_test
head_same tag size k s h =
    let f = front_least 3 k s (omega arith) in
    let head : head_test (take k s) ≡ head_test s =
    iff_eq _ _ (λ e. (head_reads s).1 (f.1 ((head_reads (take k s)).0 e))) (λ e. (head_reads (take k s)).1 (f.0 ((head_reads s).0 e))) in
    let e₀ : get_or (take k s) 0 0 ≡ get_or s 0 0 = get_or-take k s 0 0 (omega arith) in
    let e₁ : get_or (take k s) 1 0 ≡ get_or s 1 0 = get_or-take k s 1 0 (omega arith) in
    let e₂ : get_or (take k s) 2 0 ≡ get_or s 2 0 = get_or-take k s 2 0 (omega arith) in
    rw (head, e₀, e₁, e₂, body_front size k s h)

body_same : (size k : ℕ) (s : List ℕ) → 3 + size ≤ k → take size (drop 3 (take k s)) ≡ take size (drop 3 s)
body_same size k s h = ap (take size) (front_drop 3 k s (omega arith)) ∙ take-take size (k - 3) (drop 3 s) (omega arith)

field_local : {A : Type 0} (tag : ℕ) (B : Body A) → Local (field tag B) (3 + B.size)
field_local tag B = record {
  tests_same = λ k s h. ap₂ (λ (x y : Tests). x then y) (head_same tag B.size k s h) (ap B.tests (body_same B.size k s h));
  dec_same = λ k s h. ap B.dec (body_same B.size k s h);
  used = λ s. 3 + B.size;
  used_most = λ s. omega arith;
  rest_cut = λ k s h.
      let e : k - 3 - B.size ≡ k - (3 + B.size) = omega arith in
      ap (drop B.size) (front_drop 3 k s (omega arith)) ∙ front_drop B.size (k - 3) (drop 3 s) (omega arith)
      ∙ ap (λ (j : ℕ). take j (drop B.size (drop 3 s))) e;
}

-- k pieces, each by those before
chain_local : {S A : Type 0} (c : ℕ) (x : S) (P : S → Piece A) (step : S → A → S) (most : ℕ) → ((x : S) → Local (P x) most) → Local (chain c x P step) (c * most)
chain_local {S} {A} c x P step most L = record { tests_same = tests c x; dec_same = dec c x; used = used c x; used_most = less c x; rest_cut = rest c x }
  where
    used : (c : ℕ) (x : S) → List ℕ → ℕ
    used zero x s = 0
    used (suc c) x s = (L x).used s + used c (step x ((P x).dec s)) ((P x).rest s)

    less : (c : ℕ) (x : S) (s : List ℕ) → used c x s ≤ c * most
    less zero x s = omega arith
    less (suc c) x s = let m = suc-mul c most in omega (arith, (L x).used_most s, less c (step x ((P x).dec s)) ((P x).rest s))

    tests : (c : ℕ) (x : S) (k : ℕ) (s : List ℕ) → c * most ≤ k → chain_tests P step c x (take k s) ≡ chain_tests P step c x s
    tests zero x k s h = refl
    tests (suc c) x k s h =
        let m = suc-mul c most in
        let u = (L x).used_most s in
        ap₂ (λ (a b : Tests). a then b) ((L x).tests_same k s (omega arith))
        (ap₂ (λ (y : A) (t : List ℕ). chain_tests P step c (step x y) t) ((L x).dec_same k s (omega arith)) ((L x).rest_cut k s (omega arith)) ∙ tests c (step x ((P x).dec s)) (k - (L x).used s) ((P x).rest s) (omega arith))

    dec : (c : ℕ) (x : S) (k : ℕ) (s : List ℕ) → c * most ≤ k → chain_dec P step c x (take k s) ≡ chain_dec P step c x s
    dec zero x k s h = refl
    dec (suc c) x k s h =
        let m = suc-mul c most in
        let u = (L x).used_most s in
        ap₂ (λ (a : A) (b : List A). a ∷ b) ((L x).dec_same k s (omega arith))
        (ap₂ (λ (y : A) (t : List ℕ). chain_dec P step c (step x y) t) ((L x).dec_same k s (omega arith)) ((L x).rest_cut k s (omega arith)) ∙ dec c (step x ((P x).dec s)) (k - (L x).used s) ((P x).rest s) (omega arith))

    rest : (c : ℕ) (x : S) (k : ℕ) (s : List ℕ) → c * most ≤ k → chain_rest P step c x (take k s) ≡ take (k - used c x s) (chain_rest P step c x s)
    rest zero x k s h = let e : k ≡ k - 0 = omega arith in ap (λ (j : ℕ). take j s) e
    rest (suc c) x k s h =
        let m = suc-mul c most in
        let u = (L x).used_most s in
        let v = used c (step x ((P x).dec s)) ((P x).rest s) in
        let e : k - (L x).used s - v ≡ k - ((L x).used s + v) = omega arith in
        ap₂ (λ (y : A) (t : List ℕ). chain_rest P step c (step x y) t) ((L x).dec_same k s (omega arith)) ((L x).rest_cut k s (omega arith))
        ∙ rest c (step x ((P x).dec s)) (k - (L x).used s) ((P x).rest s) (omega arith)
        ∙ ap (λ (j : ℕ). take j (chain_rest P step c (step x ((P x).dec s)) ((P x).rest s))) e

-- a repetition is one by nothing
many_as_chain : {A : Type 0} (P : Piece A) (c : ℕ) (s : List ℕ)
    → (many_tests P c s ≡ chain_tests (λ (x : Unit {0}). P) (λ x y. x) c tt s) × (many_dec P c s ≡ chain_dec (λ (x : Unit {0}). P) (λ x y. x) c tt s) × (many_rest P c s ≡ chain_rest (λ (x : Unit {0}). P) (λ x y. x) c tt s)
many_as_chain P zero s = (refl, refl, refl)
many_as_chain {A} P (suc c) s =
    let i = many_as_chain P c (P.rest s) in
    (ap (λ (t : Tests). P.tests s then t) i.0, ap (λ (t : List A). P.dec s ∷ t) i.1, i.2)

many_local : {A : Type 0} (c : ℕ) (P : Piece A) (most : ℕ) → Local P most → Local (many c P) (c * most)
many_local {A} c P most L =
    let C = chain_local c tt (λ (x : Unit {0}). P) (λ x y. x) most (λ x. L) in
    record {
      tests_same = λ k s h. (many_as_chain P c (take k s)).0 ∙ C.tests_same k s h ∙ sym (many_as_chain P c s).0;
      dec_same = λ k s h. (many_as_chain P c (take k s)).1 ∙ C.dec_same k s h ∙ sym (many_as_chain P c s).1;
      used = C.used;
      used_most = C.used_most;
      rest_cut = λ k s h. (many_as_chain P c (take k s)).2 ∙ C.rest_cut k s h ∙ ap (take (k - C.used s)) (sym (many_as_chain P c s).2);
    }

-- one piece after another
seq_local : {A B : Type 0} (P : Piece A) (Q : A → Piece B) (most more : ℕ) → Local P most → ((a : A) → Local (Q a) more) → Local (seq P Q) (most + more)
seq_local {A} {B} P Q most more L M = record {
  tests_same = λ k s h.
      let u = L.used_most s in
      ap₂ (λ (x y : Tests). x then y) (L.tests_same k s (omega arith))
      (ap₂ (λ (a : A) (t : List ℕ). (Q a).tests t) (L.dec_same k s (omega arith)) (L.rest_cut k s (omega arith)) ∙ (M (P.dec s)).tests_same (k - L.used s) (P.rest s) (omega arith));
  dec_same = λ k s h.
      let u = L.used_most s in
      ap₂ (λ (a : A) (b : B). (a, b)) (L.dec_same k s (omega arith))
      (ap₂ (λ (a : A) (t : List ℕ). (Q a).dec t) (L.dec_same k s (omega arith)) (L.rest_cut k s (omega arith)) ∙ (M (P.dec s)).dec_same (k - L.used s) (P.rest s) (omega arith));
  used = λ s. L.used s + (M (P.dec s)).used (P.rest s);
  used_most = λ s. omega (arith, L.used_most s, (M (P.dec s)).used_most (P.rest s));
  rest_cut = λ k s h.
      let u = L.used_most s in
      let v = (M (P.dec s)).used (P.rest s) in
      let e : k - L.used s - v ≡ k - (L.used s + v) = omega arith in
      ap₂ (λ (a : A) (t : List ℕ). (Q a).rest t) (L.dec_same k s (omega arith)) (L.rest_cut k s (omega arith)) ∙ (M (P.dec s)).rest_cut (k - L.used s) (P.rest s) (omega arith)
      ∙ ap (λ (j : ℕ). take j ((Q (P.dec s)).rest (P.rest s))) e;
}

-- with room to spare
local_more : {A : Type 0} (P : Piece A) (most more : ℕ) → most ≤ more → Local P most → Local P more
local_more P most more h L = record {
  tests_same = λ k s g. L.tests_same k s (omega arith);
  dec_same = λ k s g. L.dec_same k s (omega arith);
  used = L.used;
  used_most = λ s. omega (arith, L.used_most s);
  rest_cut = λ k s g. L.rest_cut k s (omega arith);
}

-- one of two pieces, where the front decides
either_local : {A B : Type 0} (f : List ℕ → Bool) (P : Piece A) (Q : Piece B) (most : ℕ) → ((k : ℕ) (s : List ℕ) → most ≤ k → f (take k s) ≡ f s) → Local P most → Local Q most → Local (either f P Q) most
either_local {A} {B} f P Q most same L M = record {
  tests_same = λ k s h. ap (λ (b : Bool). cond b (Q.tests (take k s)) (P.tests (take k s))) (same k s h)
      ∙ ap₂ (λ (x y : Tests). cond (f s) x y) (M.tests_same k s h) (L.tests_same k s h);
  dec_same = λ k s h. ap (λ (b : Bool). cond b (inr (Q.dec (take k s))) (inl (P.dec (take k s)))) (same k s h)
      ∙ ap₂ (λ (x : B) (y : A). cond (f s) (inr x) (inl y)) (M.dec_same k s h) (L.dec_same k s h);
  used = λ s. cond (f s) (M.used s) (L.used s);
  used_most = λ s. split (f s) (λ b. cond b (M.used s) (L.used s) ≤ most) (λ _. M.used_most s) (λ _. L.used_most s);
  rest_cut = λ k s h. ap (λ (b : Bool). cond b (Q.rest (take k s)) (P.rest (take k s))) (same k s h)
      ∙ split (f s) (λ b. cond b (Q.rest (take k s)) (P.rest (take k s)) ≡ take (k - cond b (M.used s) (L.used s)) (cond b (Q.rest s) (P.rest s))) (λ _. M.rest_cut k s h) (λ _. L.rest_cut k s h);
}

-- ---- judged to the end

-- the last piece, with more than it reads
closed_same : {A : Type 0} (P : Piece A) (most : ℕ) → Local P most → (k : ℕ) (s : List ℕ) → most < k → closed P (take k s) ≡ closed P s
unfolding closed
closed_same P most L k s h =
    let t = P.rest s in
    let used = L.used s in
    let f = front_least 1 (k - used) t (omega (arith, L.used_most s)) in
    let none : end_test (take (k - used) t) ≡ end_test t = iff_eq _ _
    (λ e. (end_reads t).1 (left (length (take (k - used) t)) (length t) f.0 ((end_reads (take (k - used) t)).0 e)))
    (λ e. (end_reads (take (k - used) t)).1 (left (length t) (length (take (k - used) t)) f.1 ((end_reads t).0 e))) in
    ap₂ (λ (x : Tests) (b : Bool). x then unless b trailing) (L.tests_same k s (omega arith)) (ap end_test (L.rest_cut k s (omega arith)) ∙ none)
  where
    left : (l m : ℕ) → (1 ≤ m → 1 ≤ l) → l ≡ 0 → m ≡ 0
    left l m g e = by_cases (ℕ_discrete m 0) (λ z. z) (λ z. (let q = g (omega arith) in omega arith))

-- one piece, and after it the others
seq_same : {A B : Type 0} (P : Piece A) (Q : A → Piece B) (most : ℕ) → Local P most → (k : ℕ) (s : List ℕ) → most ≤ k
    → ((j : ℕ) → k - most ≤ j → first_refusal (P.tests s) ≡ 0
    → first_refusal (closed (Q (P.dec s)) (take j (P.rest s))) ≡ first_refusal (closed (Q (P.dec s)) (P.rest s)))
    → first_refusal (closed (seq P Q) (take k s)) ≡ first_refusal (closed (seq P Q) s)
seq_same {A} P Q most L k s h go =
    let et = L.tests_same k s h in
    let ed = L.dec_same k s h in
    let er = L.rest_cut k s h in
    by_cases (ℕ_discrete (first_refusal (P.tests s)) 0)
    (λ z.
    let z' : first_refusal (P.tests (take k s)) ≡ 0 = ap first_refusal et ∙ z in
    let same : first_refusal (closed (Q (P.dec (take k s))) (P.rest (take k s))) ≡ first_refusal (closed (Q (P.dec s)) (P.rest s)) =
    ap₂ (λ (x : A) (u : List ℕ). first_refusal (closed (Q x) u)) ed er ∙ go (k - L.used s) (omega (arith, L.used_most s)) z in
    sym (seq_passed P Q (take k s) _ z' refl) ∙ same ∙ seq_passed P Q s _ z refl)
    (λ nz.
    let e : first_refusal (P.tests (take k s)) ≡ first_refusal (P.tests s) = ap first_refusal et in
    sym (seq_refused P Q (take k s) (first_refusal (P.tests s)) (sym e) nz) ∙ seq_refused P Q s (first_refusal (P.tests s)) refl nz)

-- ---- the fields

-- from tag 4 on
abbrev parameter_fields : ℕ → ℕ → Piece (ParameterRows × Unit {0})
parameter_fields n b = seq (parameter_rows n b) (λ _. end_field)

-- the most bytes of a parameter row with its numbers
abbrev row_most : ℕ → ℕ
row_most n = (3 + parameter_size n) + (3 + 2 * n)

row_local : (n : ℕ) → Local (parameter_row n) (3 + parameter_size n)
unfolding parameter_row
row_local n = field_local parameter_tag (parameter_body n)

numbers_local : (n w : ℕ) (before : List ℕ) → Local (number_field (parameter_count n w) before) (3 + 2 * n)
unfolding number_field parameter_count
numbers_local n w before = local_more (field number_tag (number_body (# n (members w)) before)) _ _ (omega (arith, #-le n (members w))) (field_local number_tag (number_body (# n (members w)) before))

-- the tag behind the first row
decided_same : (n b k : ℕ) (s : List ℕ) → b * row_most n ≤ k → numbered_test n b (take k s) ≡ numbered_test n b s
unfolding numbered_test
decided_same n zero k s h = refl
decided_same n (suc b) k s h =
    let m = suc-mul b (row_most n) in
    let L = row_local n in
    ap (λ (x : ℕ). ltb 0 (suc b) && eqb x number_tag) (ap (λ (t : List ℕ). get_or t 0 0) (L.rest_cut k s (omega arith)) ∙ get_or-take (k - L.used s) ((parameter_row n).rest s) 0 0 (omega (arith, L.used_most s)))

parameters_local : (n b : ℕ) → Local (parameter_rows n b) (b * row_most n)
unfolding parameter_rows numbered_rows
parameters_local n b =
    either_local (numbered_test n b) (many b (parameter_row n)) (chain b [] (numbered_row n) and_its_numbers) (b * row_most n) (decided_same n b)
    (many_local b (parameter_row n) (row_most n) (local_more (parameter_row n) _ _ (omega arith) (row_local n)))
    (chain_local b [] (numbered_row n) and_its_numbers (row_most n) (λ before. seq_local (parameter_row n) (λ w. number_field (parameter_count n w) before) _ _ (row_local n) (λ w. numbers_local n w before)))

parameters_same : (n b k : ℕ) (s : List ℕ) → 3 + b * row_most n < k
    → first_refusal (closed (parameter_fields n b) (take k s)) ≡ first_refusal (closed (parameter_fields n b) s)
unfolding end_field
parameters_same n b k s h =
    seq_same (parameter_rows n b) (λ _. end_field) (b * row_most n) (parameters_local n b) k s (omega arith)
    (λ j g _. ap first_refusal (closed_same end_field 3 (field_local end_tag end_body) j ((parameter_rows n b).rest s) (omega arith)))

rows_same : (p n a b k : ℕ) (s : List ℕ) → 3 + a * (3 + 2 * n) + b * row_most n < k
    → first_refusal (closed (row_fields p (n, a, b)) (take k s)) ≡ first_refusal (closed (row_fields p (n, a, b)) s)
unfolding row_fields constant_row
rows_same p n a b k s h =
    let P = many a (constant_row p n) in
    seq_same P (λ _. parameter_fields n b) (a * (3 + 2 * n)) (many_local a (constant_row p n) (3 + 2 * n) (field_local constant_tag (constant_body p n))) k s (omega arith)
    (λ j g _. parameters_same n b j (P.rest s) (omega arith))

sizes_within : (s : List ℕ) → first_refusal ((field sizes_tag sizes_body).tests s) ≡ 0
    → (1 ≤ ((field sizes_tag sizes_body).dec s).0) × (((field sizes_tag sizes_body).dec s).0 ≤ most_columns)
    × (((field sizes_tag sizes_body).dec s).1 ≤ most_rows) × (((field sizes_tag sizes_body).dec s).2 ≤ most_rows)
sizes_within s e = (size_reads _ _ _).0 (unless_zero _ _ (then_zero (head_tests sizes_tag 3 s) _ e).1)

-- the most rows of both kinds
pub rows_most : (a n : ℕ) → a ≤ most_rows → n ≤ most_columns → a * (3 + 2 * n) ≤ most_rows * (3 + 2 * most_columns)
rows_most a n l m = mul-le-mul l (let w : 3 + 2 * n ≤ 3 + 2 * most_columns = omega arith in w)

numbered_most : (b n : ℕ) → b ≤ most_rows → n ≤ most_columns → b * row_most n ≤ most_rows * ((3 + set_bytes) + (3 + 2 * most_columns))
numbered_most b n l m = mul-le-mul l (let w : row_most n ≤ (3 + set_bytes) + (3 + 2 * most_columns) = omega (arith, parameter_size_most n) in w)

sizes_same : (p k : ℕ) (s : List ℕ) → longest_file < k + 5
    → first_refusal (closed (size_fields p) (take k s)) ≡ first_refusal (closed (size_fields p) s)
unfolding size_fields sizes_field
sizes_same p k s h =
    seq_same (field sizes_tag sizes_body) (λ z. row_fields p z) 6 (field_local sizes_tag sizes_body) k s (omega arith) (λ j g e.
    let z = (field sizes_tag sizes_body).dec s in
    let v = sizes_within s e in
    rows_same p z.0 z.1 z.2 j ((field sizes_tag sizes_body).rest s) (omega (arith, rows_most z.1 z.0 v.2 v.1, numbered_most z.2 z.0 v.3 v.1)))

-- any bound above the longest file
pub judge_cut : (k : ℕ) (s : List ℕ) → longest_file < k → judge (take k s) ≡ judge s
unfolding judge fields prime_field
judge_cut k s h =
    seq_same (field prime_tag prime_body) (λ p. size_fields p) 5 (field_local prime_tag prime_body) k s (omega arith)
    (λ j g _. sizes_same ((field prime_tag prime_body).dec s) j ((field prime_tag prime_body).rest s) (omega arith))
