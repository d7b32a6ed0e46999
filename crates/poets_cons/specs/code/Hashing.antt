-- What a row feeds to a hasher: the numbers of its parts, the template that it applies, and the
-- names, literals and operators between two expressions in it. Different rows may feed the same.
use Rattle.std.specs.Prelude.{List, [], ◌∷◌, ◌++◌}
use Rattle.std.specs.Hash.{HashWrites, u8, u32, i64, usize}
use Rattle.std.specs.Hash as fed
use Rattle.poets_value.specs.declared.value.Value.{Value}
use Rattle.poets_value.specs.declared.value.Value.TheVariants as V
use Rattle.poets_expr.specs.Same.{op_place}
use Rattle.poets_expr.specs.Expression.{Expression, Literal, Undefined, Named, Unary, Make, Binary}
use Rattle.poets_expr.specs.Expression.{If}
use Rattle.poets_cons.specs.Row.{Row, Success, Failure, Transmit, Plus, Par, Seq, App}

abbrev pub value_writes : Value → HashWrites
value_writes (V.Int n) = i64 n
value_writes (V.Bool b) = fed.bool b
value_writes (V.Agent x) = u32 x.id
value_writes (V.Kind x) = u32 x.id
value_writes (V.Resource r) = u32 r.kind.id ++ i64 r.amount
value_writes (V.Day d) = i64 d

abbrev pub expression_writes : Expression → HashWrites
expression_writes (Literal v) = value_writes v
expression_writes (Undefined t) = []
expression_writes (Named x) = u32 x.id
expression_writes (Unary o a) = expression_writes a
expression_writes (Make a b) = expression_writes a ++ expression_writes b
expression_writes (Binary o a b) = u8 (op_place o) ++ expression_writes a ++ expression_writes b
expression_writes (If a b c) = expression_writes a ++ expression_writes b ++ expression_writes c

abbrev pub args_writes : List Expression → HashWrites
args_writes [] = []
args_writes (a ∷ args) = expression_writes a ++ args_writes args

abbrev pub row_writes : Row → HashWrites
row_writes Success = []
row_writes Failure = []
row_writes (Transmit b p c) = usize c ++ expression_writes p
row_writes (Plus a b) = usize a ++ usize b
row_writes (Par a b) = usize a ++ usize b
row_writes (Seq a b) = usize a ++ usize b
row_writes (App f args) = u32 f.id ++ args_writes args
