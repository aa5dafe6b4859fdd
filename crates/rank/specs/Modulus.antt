-- The prime that a number stands for, and the field of residues modulo that prime: so that every number has a field, and no contract carries a proof
-- of primality. Definitions only, with the evidence that 2 is prime.
use Rattle.std.specs.Prelude.{ℕ, ◌≡◌, true}
use Rattle.residue.specs.Arithmetic.{Prime, is_prime, undivided}
use Rattle.residue.specs.Primes.{is_prime_reads, prime_by}
use Rattle.residue.specs.Fields.{Field}
use Rattle.residue.specs.Residues.{residues, res}
use Rattle.counting.specs.Bools.{true?}

-- 2 is prime
pub two_prime : Prime 2
unfolding undivided
two_prime = prime_by 2 0 tt tt tt

-- p itself where it is prime, and else 2; with the evidence
unfoldable pub modulus_at : (p : ℕ) → Dec (is_prime p ≡ true) → (q : ℕ) × Prime q
modulus_at p (yes e) = (p, (is_prime_reads p).0 e)
modulus_at p (no ne) = (2, two_prime)

-- the prime that p stands for
unfoldable pub modulus : ℕ → (q : ℕ) × Prime q
modulus p = modulus_at p (true? (is_prime p))

-- the field of residues modulo p
abbrev pub field_of : ℕ → Field
field_of p = residues (modulus p).0 (modulus p).1

-- the residue of a number modulo p
abbrev pub residue_of : (p : ℕ) → ℕ → (field_of p).F
residue_of p = res (modulus p).0 (modulus p).1
