-- `coding::operand_code` meets its contract: an arm for each form of operand. Assumes nothing.
use Rattle.coding.proofs.operand_code.Goals as goal

pub returns-in-Empty : goal.returns-in-Empty
returns-in-Empty c = rw c.in-Empty.is

pub returns-in-Literal : goal.returns-in-Literal
returns-in-Literal c = rw c.in-Literal.is c.low.ensures

pub returns-in-Register : goal.returns-in-Register
returns-in-Register c = rw c.in-Register.is c.low-in-Register.ensures

pub returns-in-Cell : goal.returns-in-Cell
returns-in-Cell c = rw c.in-Cell.is c.low-in-Cell.ensures

pub returns-in-PublicCell : goal.returns-in-PublicCell
returns-in-PublicCell c = rw c.in-PublicCell.is c.low-in-PublicCell.ensures

pub returns-in-SensitiveCell : goal.returns-in-SensitiveCell
returns-in-SensitiveCell c = rw c.in-SensitiveCell.is c.low-in-SensitiveCell.ensures

pub returns-in-TableCell : goal.returns-in-TableCell
returns-in-TableCell c = rw c.in-TableCell.is c.low-in-TableCell.ensures
