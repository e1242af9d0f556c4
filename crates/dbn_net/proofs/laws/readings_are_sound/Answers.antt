use Rattle.dbn_net.proofs.RangeLaws.{next_small}
use Rattle.dbn_net.proofs.StartLaws.{nothing_sound, sound_step, sound_list, good_start}
use Rattle.dbn_net.proofs.laws.readings_are_sound.Goals as goal

pub returns-clause-begins : goal.returns-clause-begins
returns-clause-begins c = nothing_sound

pub returns-clause-steps : goal.returns-clause-steps
returns-clause-steps c = sound_step

pub returns-clause-lists : goal.returns-clause-lists
returns-clause-lists c = sound_list

pub returns-clause-ids : goal.returns-clause-ids
returns-clause-ids c = next_small

pub returns-clause-ends : goal.returns-clause-ends
returns-clause-ends c = good_start
