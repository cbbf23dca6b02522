-- Small files whose lines, and small lines whose directives, antt computes from the definitions.
use Rattle.std.specs.Prelude.{ℕ, ◌≡◌, refl, List, [], ◌∷◌, map}
use Prim.Native.String.{String}
use Rattle.text.specs.Bytes.{byte, bytes}
use Rattle.text.specs.Runs.{span}
use Rattle.text.specs.Order.{compared}
use Rattle.line.specs.Lines.{onto, ends_line, lines}
use Rattle.line.specs.Directives.{named, word_start, text_start, text_of, directive_of}
use Rattle.line.specs.declared.Directive.{Directive}
use Rattle.line.specs.declared.Directive.TheVariants.{Plain, If, Ifdef, Ifndef, Elseif, Else, Endif, Unknown}

-- a file and its lines
pub record FileCase : Type 0 where
  pub file : String
  pub parts : List String

abbrev cut : String → List String → FileCase
cut f ls = record { file = f; parts = ls }

abbrev files : List FileCase
files =
    cut "" []
    ∷ cut "a\nb" ("a" ∷ "b" ∷ [])
    ∷ cut "a\nb\n" ("a" ∷ "b" ∷ [])
    ∷ cut "a\r\nb\r" ("a" ∷ "b\r" ∷ [])
    ∷ cut "a\rb\r\n" ("a\rb" ∷ [])
    ∷ cut "\r\r\n" ("\r" ∷ [])
    ∷ cut "\n\n" ("" ∷ "" ∷ [])
    ∷ cut "\n\r\n\r" ("" ∷ "" ∷ "\r" ∷ [])
    ∷ []

files_hold : map (λ x. lines (bytes x.file)) files ≡ map (λ x. map bytes x.parts) files
unfolding onto ends_line lines
files_hold = refl

-- a line, its directive, and the text after its word
pub record LineCase : Type 0 where
  pub line : List ℕ
  pub directive : Directive
  pub text : List ℕ

abbrev reads : String → Directive → String → LineCase
reads l d t = record { line = bytes l; directive = d; text = bytes t }

abbrev directives : List LineCase
directives =
    reads "  !if x" If " x"
    ∷ reads "!ifdef NAME" Ifdef " NAME"
    ∷ reads "\t!ifndef\tNAME" Ifndef "\tNAME"
    ∷ reads "!elseif 1" Elseif " 1"
    ∷ reads "!elif" Elseif ""
    ∷ reads "!else9" Else "9"
    ∷ reads "!endif # done" Endif " # done"
    ∷ reads "!include1" Plain "1"
    ∷ reads "!error" Plain ""
    ∷ reads "!ifx" Unknown ""
    ∷ reads "!includes" Unknown ""
    ∷ reads "!IF 1" Unknown " 1"
    ∷ reads "!" Unknown ""
    ∷ reads "! if" Unknown " if"
    ∷ record { line = byte "!" ∷ 0xe9 ∷ []; directive = Unknown; text = 0xe9 ∷ [] }
    ∷ []

directives_hold : map (λ x. directive_of x.line) directives ≡ map (λ x. x.directive) directives
unfolding span compared named word_start text_start directive_of
directives_hold = refl

texts_hold : map (λ x. text_of x.line) directives ≡ map (λ x. x.text) directives
unfolding span word_start text_start
texts_hold = refl

-- lines without a word
abbrev plain : List String
plain = "" ∷ " \t" ∷ "x !if" ∷ "#!if" ∷ []

plain_hold : map (λ x. directive_of (bytes x)) plain ≡ map (λ x. Plain) plain
unfolding span compared named word_start text_start directive_of
plain_hold = refl
