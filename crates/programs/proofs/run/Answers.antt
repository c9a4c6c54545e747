-- `run` meets its contract: of an input that is longer than may be read, no byte behind those that were read counts.
use Rattle.programs.proofs.Texts.{text_known}
use Rattle.programs.proofs.run.Goals as goal

pub returns-clause-printed : goal.returns-clause-printed
returns-clause-printed g c = text_known _ _ _ _ _ _ c.in_ok-count.ensures.front c.print_text.ensures.printed
