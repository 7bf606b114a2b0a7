use Rattle.fr_state.proofs.DecodeLemmas.{are_bytes, found, only}
use Rattle.fr_state.proofs.reading.decode.Goals as goal

pub returns-clause-found : goal.returns-clause-found
returns-clause-found c = found c.state_of.result c.args.bytes.now (are_bytes c.args.bytes.now c.type_inv.bytes) c.state_of.ensures.ok

pub returns-clause-only : goal.returns-clause-only
returns-clause-only c = only c.state_of.result c.args.bytes.now c.state_of.ensures.ok c.state_of.ensures.refused
