-- The certificate of a table as the code holds it: at the front of three arrays of 24 the core, the response time and the allowance of each row.
use Rattle.std.specs.Prelude.{◌≡◌, ℕ, suc, List, take, Result, Ok, Err}
use Rattle.answers.specs.declared.Refusal.{Refusal}
use Rattle.answers.specs.declared.Refusal.TheVariants.{NoCoreTakes}
use Rattle.placement.specs.Core.{Table}
use Rattle.placement.specs.Choice.{allowance_fit}
use Rattle.placement.specs.Placement.{Stopped}
use Rattle.placement.specs.Figures.{Figures, figures_from, Certified}
use Rattle.certificates.specs.declared.certificate.Certificate.{Certificate}

-- the figures of its rows
abbrev pub held_figures : Certificate → List Figures
held_figures certificate =
    figures_from (take certificate.n certificate.core) (take certificate.n certificate.response) (take certificate.n certificate.allowance)

-- what is given is the certificate of a table: the figures of its rows, or the row that no core takes
abbrev pub IsHeld : Table → Result Certificate Refusal → Type 0
IsHeld table (Ok certificate) = Certified allowance_fit table (held_figures certificate)
IsHeld table (Err refusal) = (i : ℕ) × (refusal ≡ NoCoreTakes (suc i)) × Stopped allowance_fit table i
