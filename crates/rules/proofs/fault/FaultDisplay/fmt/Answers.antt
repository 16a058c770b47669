-- Each case prints the words of its definition.
use Rattle.rules.proofs.fault.FaultDisplay.fmt.Goals as goal

pub returns-in-NoColumn-clause-writes : goal.returns-in-NoColumn-clause-writes
returns-in-NoColumn-clause-writes g c = rw c.in-NoColumn.is c.write.ensures.writes

pub returns-in-MarksFull-clause-writes : goal.returns-in-MarksFull-clause-writes
returns-in-MarksFull-clause-writes g c = rw c.in-MarksFull.is c.write_str-in-MarksFull.ensures.writes

pub returns-in-ListTooShort-clause-writes : goal.returns-in-ListTooShort-clause-writes
returns-in-ListTooShort-clause-writes g c = rw c.in-ListTooShort.is c.write_str-in-ListTooShort.ensures.writes

pub returns-in-WindowCount-clause-writes : goal.returns-in-WindowCount-clause-writes
returns-in-WindowCount-clause-writes g c = rw c.in-WindowCount.is c.write_str-in-WindowCount.ensures.writes

pub returns-in-ColumnTwice-clause-writes : goal.returns-in-ColumnTwice-clause-writes
returns-in-ColumnTwice-clause-writes g c = rw c.in-ColumnTwice.is c.write-in-ColumnTwice.ensures.writes

pub returns-in-TiedSummands-clause-writes : goal.returns-in-TiedSummands-clause-writes
returns-in-TiedSummands-clause-writes g c = rw c.in-TiedSummands.is c.write-in-TiedSummands.ensures.writes
