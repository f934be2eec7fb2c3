-- Lines for people: what holds of them, whatever they say.
use Rattle.std.specs.Prelude.{◌≡◌, ℕ, Bool, ◌||◌, ◌==◌, if◌then◌else◌, ◌⊎◌, List, [], ◌∷◌, ◌++◌, map, Option, None, Some, codes, decimal}
use Rattle.std.specs.List.{list_all, list_any}
use Rattle.rail_model.specs.Name.{is_same, is_name_byte}

-- the bytes of a text, if there is one
abbrev pub bytes_of : {X : Type 0} → (X → List ℕ) → Option X → List ℕ
bytes_of bytes None = []
bytes_of bytes (Some text) = bytes text

-- no byte is a control character of ASCII but the line feeds between lines
abbrev pub is_plain : List ℕ → Bool
is_plain told = list_all (λ b. b == 10 || is_name_byte b) told

-- nothing is told, or a text that begins with these words
abbrev pub BeginsWith : List ℕ → List ℕ → Type 0
BeginsWith words told = (told ≡ []) ⊎ ((rest : List ℕ) × (told ≡ words ++ rest))

-- why the row of a number is refused, after its number, and its line where that is given
abbrev pub of_row : ℕ → Option ℕ → List ℕ → List ℕ
of_row row None why = codes "row " ++ decimal row ++ codes ": " ++ why
of_row row (Some line) why = codes "row " ++ decimal row ++ codes ", in line " ++ decimal line ++ codes ": " ++ why

-- nothing is told, or a text about the row of this number
abbrev pub IsOfRow : ℕ → List ℕ → Type 0
IsOfRow row told = (told ≡ []) ⊎ ((line : Option ℕ) × ((why : List ℕ) × (told ≡ of_row row line why)))

-- nothing is told, or a text about a run that is named, or about a word that is no name
abbrev pub IsOfRun : {X : Type 0} → Option X → List ℕ → Type 0
IsOfRun None told = BeginsWith (codes "the word of a run is no name") told
IsOfRun (Some run) told = BeginsWith (codes "run ") told

-- nothing is told, or a text about a section that isn't there, or about a word that is no name
abbrev pub IsOfSection : {X : Type 0} → Option X → List ℕ → Type 0
IsOfSection None told = BeginsWith (codes "the word of a section is no name") told
IsOfSection (Some section) told = BeginsWith (codes "no section is named ") told

-- the words of the commands
abbrev pub is_command : List ℕ → Bool
is_command word =
    list_any (is_same word) (map codes ("stairs" ∷ "check" ∷ "report" ∷ "compress" ∷ "headways" ∷ "cut" ∷ "cycle" ∷ "delays"
    ∷ "fill" ∷ "session" ∷ "made" ∷ []))

-- nothing is told, or a text about the first of some words: that there is none, that no command has it, or what its
-- command wants
abbrev pub IsOfWords : List (List ℕ) → List ℕ → Type 0
IsOfWords [] told = BeginsWith (codes "no command is given") told
IsOfWords (word ∷ more) told = BeginsWith (if is_command word then word ++ codes " wants " else codes "no such command: ") told
