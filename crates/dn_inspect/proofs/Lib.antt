mod Cells
mod Named
mod SameLists
