-- The words of the survey.
use Rattle.std.specs.Prelude.{ℕ, List, codes}
use Rattle.survey.specs.declared.losses.Finds.{Finds}
use Rattle.survey.specs.declared.losses.Finds.TheVariants.{Always, Sometimes, Never}

abbrev pub word_of : Finds → List ℕ
word_of Always = codes "always"
word_of Sometimes = codes "sometimes"
word_of Never = codes "never"
