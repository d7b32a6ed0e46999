-- What a history is judged by: a book and its reports.
use Rattle.std.specs.Prelude.{List}
use Rattle.poets_syntax.specs.Plain.{Book}
use Rattle.poets_report.specs.Plain.{Report}

-- a book and its reports
pub record Frame : Type 0 where
  pub book : Book
  pub reports : List Report

-- the frame of a book and its reports
abbrev pub frame_of : Book → List Report → Frame
frame_of book reports = record { book = book; reports = reports }
