use Rattle.kilim_case_text.proofs.run_tables.Entries.{readable}
use Rattle.kilim_case_text.proofs.run_tables.journals.push_entries.Goals as goal

pub text-requires : goal.text-requires
text-requires c = readable _ c.requires
