-- Laws of patches of three and four corners.
mod FewCorners
