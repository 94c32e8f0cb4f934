use Rattle.rk_program.proofs.OneText.{one_transcript}
use Rattle.rk_program.proofs.SomeText.{some_transcript}
use Rattle.rk_program.proofs.laws.a_file_has_one_transcript.Goals as goal

pub returns-clause-no_two : goal.returns-clause-no_two
returns-clause-no_two c = one_transcript

pub returns-clause-there_is_one : goal.returns-clause-there_is_one
returns-clause-there_is_one c = some_transcript
