-- Files whose numbers differ stand on the list once.
use Rattle.bundler_call.proofs.Leading.{once_listed}
use Rattle.bundler_call.proofs.load.LoadList.file_at.Goals as goal

pub returns-in-None-clause-once : goal.returns-in-None-clause-once
returns-in-None-clause-once c = λ kept numbered. once_listed kept c.args.self.now.files c.len-count.ensures.once numbered

pub returns-in_err-clone-in-Some-clause-once : goal.returns-in_err-clone-in-Some-clause-once
returns-in_err-clone-in-Some-clause-once c = λ kept numbered. once_listed kept c.args.self.now.files c.len-count.ensures.once numbered

pub returns-in_ok-clone-in-Some-clause-once : goal.returns-in_ok-clone-in-Some-clause-once
returns-in_ok-clone-in-Some-clause-once c = λ kept numbered. once_listed kept c.args.self.now.files c.len-count.ensures.once numbered
