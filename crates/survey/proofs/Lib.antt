-- What is left behind the references of what was lent.
mod Left
