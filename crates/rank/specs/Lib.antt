-- From residues to the rank of a layered model, document 01's definitions and the theorems about them; lists of steps and demand 3.
pub mod Modulus
pub mod ModulusLaws
pub mod Linear
pub mod Graph
pub mod Verdict
pub mod VerdictLaws
pub mod Layered
pub mod Independent
pub mod ListedModel
pub mod Totals
pub mod Steps
pub mod StepsLaws
