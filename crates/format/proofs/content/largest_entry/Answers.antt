-- `content::largest_entry` meets its contract. Assumes nothing.
use Rattle.std.proofs.Common.{rules, max, ap, ◌∙◌}
use Rattle.std.specs.List.{fold}
use Rattle.std.proofs.lemmas.Iterator.Consumers.{fold_from_yields_List}
use Rattle.format.specs.File.Format.{entries}
use Rattle.format.proofs.Entries.{pairs}
use Rattle.format.proofs.content.largest_entry.Goals as goal

pub returns : goal.returns
returns c =
    let cut = c.chunks_exact.ensures in
    fold_from_yields_List _ max 0 _ c.fold.ensures.ran (pairs c.chunks_exact.result cut.size) (λ a x b q k. search rules)
    ∙ ap (λ s. fold max 0 (entries s)) cut.rest
