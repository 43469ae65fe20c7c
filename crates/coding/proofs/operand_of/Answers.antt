-- `coding::operand_of` meets its contract: the ranges of the numbers are the definition's. Assumes nothing.
use Rattle.model.specs.Stored.{operand_of}
use Rattle.coding.proofs.Tests.{tests}
use Rattle.coding.proofs.operand_of.Goals as goal

pub returns-in-1-to-256 : goal.returns-in-1-to-256
unfolding operand_of
returns-in-1-to-256 c = search tests

pub returns-in-257-to-288 : goal.returns-in-257-to-288
unfolding operand_of
returns-in-257-to-288 c = search tests

pub returns-in-289-to-800 : goal.returns-in-289-to-800
unfolding operand_of
returns-in-289-to-800 c = search tests

pub returns-in-801-to-4896 : goal.returns-in-801-to-4896
unfolding operand_of
returns-in-801-to-4896 c = search tests

pub returns-in-4897-to-8992 : goal.returns-in-4897-to-8992
unfolding operand_of
returns-in-4897-to-8992 c = search tests

pub returns-in-8993-to-65535 : goal.returns-in-8993-to-65535
unfolding operand_of
returns-in-8993-to-65535 c = search tests

pub returns-in_default : goal.returns-in_default
unfolding operand_of
returns-in_default c = search tests
