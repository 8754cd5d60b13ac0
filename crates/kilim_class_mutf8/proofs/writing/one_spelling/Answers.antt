use Rattle.kilim_class_mutf8.proofs.Texts as texts
use Rattle.kilim_class_mutf8.proofs.writing.one_spelling.Goals as goal

pub returns : goal.returns
returns c = texts.one_spelling
