use Rattle.blif_lines.proofs.Agreement.{all_agree}
use Rattle.blif_lines.proofs.WhatIsRead.{apart_last}
use Rattle.blif_lines.proofs.AfterLines.{instances_last, fault_next}
use Rattle.blif_lines.proofs.reading_laws.a_draft_reads_its_lines.Goals as goal

pub returns-clause-whole : goal.returns-clause-whole
returns-clause-whole c = all_agree

pub returns-clause-apart : goal.returns-clause-apart
returns-clause-apart c = apart_last

pub returns-clause-instances : goal.returns-clause-instances
returns-clause-instances c = instances_last

pub returns-clause-fault : goal.returns-clause-fault
returns-clause-fault c = fault_next
