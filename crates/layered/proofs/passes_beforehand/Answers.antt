-- `layered::passes_beforehand`: the tests one after another.
use Rattle.std.proofs.Common.{refl}
use borrow.Author.Tests.{le-leb, lt-leb}
use Rattle.limits.specs.Limits.{largest_prime}
use Rattle.layered.specs.Beforehand.{beforehand}
use Rattle.layered.proofs.passes_beforehand.Goals as goal

pub returns-then-model-gt-LARGEST_PRIME : goal.returns-then-model-gt-LARGEST_PRIME
unfolding beforehand
returns-then-model-gt-LARGEST_PRIME c = rw (lt-leb c.args.model.now.p largest_prime c.if-model-gt-LARGEST_PRIME.true) refl

pub returns-then-model-lt1 : goal.returns-then-model-lt1
unfolding beforehand
returns-then-model-lt1 c =
    let m = c.args.model.now in
    rw (le-leb m.p largest_prime c.if-model-gt-LARGEST_PRIME.false, lt-leb 1 m.n c.if-model-lt1.true) refl

pub returns : goal.returns
unfolding beforehand
returns c =
    let m = c.args.model.now in
    rw (le-leb m.p largest_prime c.if-model-gt-LARGEST_PRIME.false, le-leb 1 m.n c.if-model-lt1.false) c.parameters_within.ensures
