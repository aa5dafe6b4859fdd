-- The call about blocks on a file is the call on the file's model handed over, the call from C is the call on its file, and what it refuses the layered
-- call refuses alike. Assumes nothing.
use Rattle.std.specs.Prelude.{ℕ, suc, ◌<◌, ◌≡◌, refl, ◌≢◌, length, get_or, drop}
use Rattle.std.proofs.Common.{sym, ap, ◌∙◌, arith}
use Rattle.std.proofs.Math.Option.{none}
use mathlib.Core.List.{List, flatten}
use Rattle.std.proofs.Math.ListN.{get_or-append}
use Rattle.limits.specs.Limits.{most_columns}
use Rattle.columns.specs.Words.Bytes.{AreBytes}
use Rattle.dependence.specs.ListingLaws.{listing_length}
use Rattle.format.specs.Lists.{over}
use Rattle.format.specs.RefusalLaws.{then_zero, then_refused}
use Rattle.format.specs.TestLaws.{accepted_model}
use Rattle.format.specs.File.Piece.{closed}
use Rattle.format.specs.File.Format.{fields, judge, decode}
use Rattle.layered.specs.Answers.{AnswerShown}
use Rattle.layered.specs.FileModel.{file_model}
use Rattle.layered.proofs.FileLaws.{call_answered}
use Rattle.host.specs.AreaCall.{area_refusal}
use Rattle.blocks.specs.Answers.{shown_number, BlocksAnswered, BlocksCall, BlocksFileCall}
use Rattle.blocks.specs.Bytes.{blocks_bytes}
use Rattle.blocks.specs.Shown.{Blocks}
use Rattle.solvability.specs.Host.{HostAnswer, HostBlocks}
use Rattle.promises.specs.FileLaws.{file_accepted}

pub blocks_file_call : (s : List ℕ) → AreBytes s → (r : Blocks) → BlocksFileCall s r → r.refusal ≡ 0
    → BlocksCall (decode s).p (decode s).n (decode s).a (decode s).b (flatten (decode s).constants) (decode s).parameters none r
blocks_file_call s bytes r call ok =
    let due = sym call.is_refusal ∙ ok in
    call_answered (accepted_model _ _ _ _ _ _ none (file_accepted s bytes due)) ok (call.if_accepted due)

pub blocks_host_call : (s area area' : List ℕ) → HostBlocks s area 0 area'
    → AnswerShown (λ r. (r.refusal ≡ 0) × BlocksFileCall s r) (λ r. area' ≡ over (blocks_bytes r) area)
unfolding area_refusal judge
blocks_host_call s area area' call =
    let shown = call.if_accepted (sym call.is_number) in
    let t : Blocks = shown.answer in
    let g : BlocksAnswered (file_model s) t = shown.is_answer in
    record {
      answer = record { refusal = 0; count = t.count; numbers = t.numbers };
      is_answer = (refl, call_answered (then_zero (closed fields s) _ (sym call.is_number)).0 refl (record { count_is = g.count_is; numbers_are = g.numbers_are }));
      is_shown = shown.is_shown;
    }

-- byte 0 is the number of blocks and byte 1 + x what is shown of column x, as in every answer of the call on the file
pub blocks_bytes_read : (s area area' : List ℕ) → HostBlocks s area 0 area' → (r : Blocks) → BlocksFileCall s r → r.refusal ≡ 0
    → (get_or area' 0 0 ≡ r.count) × ((x : ℕ) → x < most_columns → get_or area' (suc x) 0 ≡ get_or r.numbers x 0)
unfolding over
blocks_bytes_read s area area' call r answer ok =
    let shown = call.if_accepted (sym call.is_number) in
    let t : Blocks = shown.answer in
    let g : BlocksAnswered (file_model s) t = shown.is_answer in
    let h : BlocksAnswered (file_model s) r = answer.if_accepted (sym answer.is_refusal ∙ ok) in
    let long : length t.numbers ≡ most_columns = ap length g.numbers_are ∙ listing_length most_columns (shown_number (file_model s)) in (
      ap (λ (bs : List ℕ). get_or bs 0 0) shown.is_shown ∙ g.count_is ∙ sym h.count_is,
      λ x l. ap (λ (bs : List ℕ). get_or bs (suc x) 0) shown.is_shown
          ∙ get_or-append t.numbers (drop (length (blocks_bytes t)) area) 0 x (omega (arith, long))
          ∙ ap (λ (ns : List ℕ). get_or ns x 0) (g.numbers_are ∙ sym h.numbers_are),
    )

-- a file that is refused
pub host_blocks_refused_alike : (s area area' out out' : List ℕ) (k j : ℕ) → HostAnswer s area k area' → HostBlocks s out j out' → judge s ≢ 0 → (k ≡ judge s) × (j ≡ judge s)
unfolding area_refusal judge
host_blocks_refused_alike s area area' out out' k j answer call nz =
    (answer.is_number ∙ sym (then_refused (closed fields s) _ (judge s) refl nz), call.is_number ∙ sym (then_refused (closed fields s) _ (judge s) refl nz))
