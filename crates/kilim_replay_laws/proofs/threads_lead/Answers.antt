use Rattle.kilim_replay_laws.proofs.Leads.{threads_lead}
use Rattle.kilim_replay_laws.proofs.threads_lead.Goals as goal

pub returns : goal.returns
returns c = threads_lead
