use Rattle.std.proofs.Common.{take}
use Rattle.serde_json.specs.Data.{string}
use Rattle.poets_lex.specs.Table.{texts_of}
use Rattle.poets_json.specs.code.Values.{AreOf}
use Rattle.poets_json.proofs.export.texts_json.Given as goal

abbrev pub invariant-loop-text : goal.invariant-loop-text
invariant-loop-text l = AreOf string (texts_of (take l.text-index l.texts)) l.made.items
