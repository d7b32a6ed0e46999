-- What is told where a part of a document was not read.
use Rattle.poets_parse.specs.declared.fault.Unread.{Unread}
use Rattle.poets_parse.specs.declared.fault.Unread.TheVariants as U
use Rattle.poets_import.specs.declared.fault.ImportFault.{ImportFault}
use Rattle.poets_import.specs.declared.fault.ImportFault.TheVariants as F

abbrev pub fault_of : Unread → ImportFault
fault_of U.Shape = F.Shape
fault_of U.Memory = F.Memory
