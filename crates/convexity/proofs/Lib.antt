-- Laws of question 8 over the table of patches.
mod PatchTables
mod TableCorners
