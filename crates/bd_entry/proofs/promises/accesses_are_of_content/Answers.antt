use Rattle.bd_entry.proofs.ContentAccesses.{reads_give_content, writes_go_to_content}
use Rattle.bd_entry.proofs.promises.accesses_are_of_content.Goals as goal

pub returns-clause-reads : goal.returns-clause-reads
returns-clause-reads c = reads_give_content

pub returns-clause-writes : goal.returns-clause-writes
returns-clause-writes c = writes_go_to_content
