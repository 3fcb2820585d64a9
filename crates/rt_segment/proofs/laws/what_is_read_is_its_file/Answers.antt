use Rattle.rt_segment.proofs.FileLaws.{read_spelled}
use Rattle.rt_segment.proofs.laws.what_is_read_is_its_file.Goals as goal

pub returns : goal.returns
returns c = λ bytes segment fits e. read_spelled bytes segment fits e
