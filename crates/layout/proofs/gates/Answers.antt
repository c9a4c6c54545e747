-- `gates` meets its contract: the chunks of three words are the gates.
use Rattle.std.proofs.Common.{ap, ◌∙◌, length, ◌/◌, map}
use Rattle.layout.specs.Gate.{gate_in}
use Rattle.layout.proofs.Triples.{chunked_gates}
use Rattle.layout.proofs.gates.Goals as goal

pub returns : goal.returns
returns c = let ws = c.args.words.now in ap (map gate_in) c.as_chunks.ensures.front ∙ chunked_gates (length ws / 3) ws
