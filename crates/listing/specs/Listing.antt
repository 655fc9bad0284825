-- The lines that the bench program prints, as bytes: document 01, "The listing". Each line ends in a newline, the last too.
use Rattle.std.specs.Prelude.{ℕ, zero, suc, ◌+◌, ◌/◌, ◌%◌, min, true, false, List, [], ◌∷◌, ◌++◌, ltb}
use Prim.Native.Char.{code}
use Prim.Native.String.{String}
use Rattle.placement.specs.Figures.{Figures}

-- the bytes of a text of ASCII characters
unfoldable pub ascii : String → List ℕ
ascii String.[] = []
ascii (String.◌∷◌ character text) = code character ∷ ascii text

-- the header line, newline counted: 28 bytes
unfoldable pub header_line : List ℕ
header_line = ascii "row core response allowance\n"

-- the digits of n in front of those that follow; the steps are bounded only so that it computes
unfoldable pub digits_before : ℕ → ℕ → List ℕ → List ℕ
digits_before zero n behind = behind
digits_before (suc steps) n behind = elim (ltb n 10) [ true ↦ (48 + n) ∷ behind | false ↦ digits_before steps (n / 10) ((48 + n % 10) ∷ behind) ]

-- n in decimal digits, with no leading zero
unfoldable pub decimal : ℕ → List ℕ
decimal n = digits_before (suc n) n []

-- the line of a row: its number, core, response time and allowance, one space between
unfoldable pub row_line : ℕ → Figures → List ℕ
row_line number figures = decimal number ++ (32 ∷ decimal figures.core ++ (32 ∷ decimal figures.response ++ (32 ∷ decimal figures.allowance ++ (10 ∷ []))))

-- a line for each row in table order, numbered from a first number on
unfoldable pub row_lines : ℕ → List Figures → List ℕ
row_lines number [] = []
row_lines number (figures ∷ others) = row_line number figures ++ row_lines (suc number) others

-- the system's allowance: the smallest of all rows', the first row's being at hand
unfoldable pub smallest_allowance : ℕ → List Figures → ℕ
smallest_allowance a [] = a
smallest_allowance a (figures ∷ others) = smallest_allowance (min a figures.allowance) others

unfoldable pub system_allowance : List Figures → ℕ
system_allowance [] = 0
system_allowance (figures ∷ others) = smallest_allowance figures.allowance others

-- the listing of a certified table
unfoldable pub listing : List Figures → List ℕ
listing all = header_line ++ (row_lines 1 all ++ (ascii "system " ++ (decimal (system_allowance all) ++ (10 ∷ []))))

-- `refused N row R`
unfoldable pub refusal : ℕ → ℕ → List ℕ
refusal number row = ascii "refused " ++ (decimal number ++ (ascii " row " ++ (decimal row ++ (10 ∷ []))))
