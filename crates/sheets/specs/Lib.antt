-- Document 01, "Sheets to reproduce": those marked P; and those of document 02's requests 1 and 2.
pub mod Sheets
