-- The header of the listing.
use mathlib.Core.Path.{◌≡◌, refl}
use lib.ListN.{length}
use Rattle.listing.specs.Listing.{ascii, header_line}

-- the header line is 28 bytes, newline counted
pub header_line_length : length header_line ≡ 28
unfolding header_line ascii
header_line_length = refl
