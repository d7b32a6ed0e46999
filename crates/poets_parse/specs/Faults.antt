-- What is told where a text was not read: that it has not the shape of what was sought, or that memory ran out.
use Rattle.poets_lex.specs.declared.fault.LexFault.{LexFault}
use Rattle.poets_lex.specs.declared.fault.LexFault.TheVariants as L
use Rattle.poets_parse.specs.declared.fault.SyntaxFault.{SyntaxFault}
use Rattle.poets_parse.specs.declared.fault.SyntaxFault.TheVariants as S
use Rattle.poets_parse.specs.declared.fault.Unread.{Unread}
use Rattle.poets_parse.specs.declared.fault.Unread.TheVariants as U

-- where bytes are no tokens
abbrev pub unread_of_lex : LexFault → Unread
unread_of_lex L.Memory = U.Memory
unread_of_lex _ = U.Shape

-- where tokens are no statement
abbrev pub unread_of_syntax : SyntaxFault → Unread
unread_of_syntax S.Memory = U.Memory
unread_of_syntax _ = U.Shape
