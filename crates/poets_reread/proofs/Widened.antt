-- The calls of scripts over a table that has more names behind those of theirs.
use Rattle.std.proofs.Common.{◌≡◌, ℕ, ◌+◌, ◌<◌, ◌^◌, List, ◌++◌, length, get_or, sym, ap, ◌∙◌, subst, arith}
use Rattle.std.specs.Prelude.{codes}
use Rattle.std.specs.Fmt.{decimal}
use Rattle.std.specs.Arc.{arc_value}
use Rattle.std.specs.declared.alloc.Global.{Global}
use Rattle.std.specs.declared.sync.Arc.{Arc}
use Rattle.std.proofs.lemmas.List.{length-append}
use Rattle.poets_value.specs.Listed.{Listed}
use Rattle.poets_value.specs.declared.value.Name.{Name}
use Rattle.poets_lex.specs.Table.{Table, Extends}
use Rattle.poets_command.specs.Calls.{command_of}
use Rattle.poets_command.specs.Plain.{Command}
use Rattle.poets_command.specs.declared.call.Command.{Command as CodeCommand}
use Rattle.poets_print.specs.Laws.{CanWriteCommand, IsListed}
use Rattle.poets_printed.specs.Numbered.{numbered_text}
use Rattle.poets_stored.specs.Laws.{AreStorableScripts, IsStorableCall}
use Rattle.poets_reread.proofs.Moved.{text_wide}
use Rattle.poets_reread.proofs.RenamedTexts.{command_again, written_again}

module _ (names wide : Table) (more : Extends names wide) where
  listed_wide : (x : Name) → IsListed names x → IsListed wide x
  listed_wide x low = let long = ap length more.1 ∙ length-append names more.0 in omega (arith, low, long)

  -- a call that can be written with the names has one text
  numbered_wide : (clerk : ℕ) (command : Command) → CanWriteCommand names command → numbered_text wide clerk command ≡ numbered_text names clerk command
  numbered_wide clerk command can = ap (λ (t : List ℕ). decimal clerk ++ codes ": " ++ t) (command_again names wide (text_wide names wide more) command can)

  call_wide : (call : Arc CodeCommand Global) → IsStorableCall names call → IsStorableCall wide call
  call_wide call storable =
      let command = command_of (arc_value call) in (
        written_again names wide listed_wide command storable.0,
        λ clerk low. subst (λ (t : List ℕ). length t < 2 ^ 32) (sym (numbered_wide clerk command storable.0)) (storable.1 clerk low),
      )

  -- scripts that can be stored with the names can be stored with more
  pub storable_wide : (scripts : List (Listed (Arc CodeCommand Global))) → AreStorableScripts names scripts → AreStorableScripts wide scripts
  storable_wide scripts storable = λ k d lt j e inside. call_wide (get_or (get_or scripts k d).items j e) (storable k d lt j e inside)
