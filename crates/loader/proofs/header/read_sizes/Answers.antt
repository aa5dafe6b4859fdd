-- `header::read_sizes` meets its contract: what an accepted file says is the model's. Assumes nothing.
use Rattle.std.specs.Prelude.{ℕ, List, ◌+◌, ◌≡◌}
use Rattle.std.proofs.Common.{rules, arith, sym, ap, ap₂, ◌∙◌}
use Rattle.format.specs.File.Piece.{said_rests}
use Rattle.format.specs.File.Format.{decode, numbered_test}
use Rattle.format.specs.File.FormatLaws.{decoded_valid}
use Rattle.format.proofs.Headers.{read_accepted, read_sizes, read_refused}
use Rattle.format.proofs.Walking.{said_rests_behind, rows_said, parameters_part, parameters_behind, numbered_decoded}
use Rattle.std.proofs.lemmas.Result.{err_from_is_err_and}
use Rattle.loader.proofs.header.read_sizes.Goals as goal

pub returns : goal.returns
returns c =
    let s = c.args.file.now in
    let e = read_accepted s c.in_ok-header.ensures in
    let v = decoded_valid s (λ i. search (rules, c.type_inv.file i)) e in
    let h = read_sizes s c.in_ok-header.ensures in
    let n_is : c.from-n.result ≡ (decode s).n = c.from-n.ensures ∙ h.n_is in
    let a_is : c.from-a.result ≡ (decode s).a = c.from-a.ensures ∙ h.a_is in
    let b_is : c.from-b.result ≡ (decode s).b = c.from-b.ensures ∙ h.b_is in
    let rows = c.after_fields.ensures ∙ ap (λ (k : ℕ). said_rests (2 + k) s) a_is
    ∙ said_rests_behind (decode s).a s ∙ ap (said_rests (decode s).a) (rows_said s e) ∙ parameters_behind s e in
    record {
      is_accepted = e;
      p_is = h.p_is;
      n_is = n_is;
      a_is = a_is;
      b_is = b_is;
      numbered_is = c.is_numbered-numbered.ensures ∙ ap (λ (t : List ℕ). numbered_test c.from-n.result c.from-b.result t) rows
          ∙ ap₂ (λ (n : ℕ) (b : ℕ). numbered_test n b (parameters_part s e)) n_is b_is ∙ sym (numbered_decoded s e);
      n_small = omega (arith, n_is, v.n_most);
      a_small = omega (arith, a_is, v.a_most);
      b_small = omega (arith, b_is, v.b_most);
    }

pub returns-in_err-header : goal.returns-in_err-header
returns-in_err-header c = let p = err_from_is_err_and c.from_residual.result c.from_residual.ensures.1 in rw (p.1, p.2) (read_refused _ c.in_err-header.ensures)
